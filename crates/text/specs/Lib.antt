pub mod Fields
pub mod Numbers
pub mod Digits
pub mod Written
