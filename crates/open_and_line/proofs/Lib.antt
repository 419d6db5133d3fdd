pub mod Opened
pub mod Calls
