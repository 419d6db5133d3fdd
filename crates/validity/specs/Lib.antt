pub mod Availability
pub mod Columns
pub mod Index
pub mod Days
pub mod Steps
pub mod Dates
