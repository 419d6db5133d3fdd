pub mod Lines
pub mod States
pub mod Sizes
pub mod Passed
pub mod Accepted
pub mod Pins
