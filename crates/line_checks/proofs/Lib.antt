pub mod ByTag
pub mod Chain
pub mod Records
pub mod Dates
