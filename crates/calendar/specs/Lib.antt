pub mod Dates
pub mod Places
pub mod Restated
pub mod Spans
pub mod Answers
