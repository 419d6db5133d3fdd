pub mod Rounding
pub mod Points
pub mod Units
pub mod Answers
