pub mod Lists
pub mod Restated
