pub mod Readings
pub mod Columns
