pub mod Coefficients
pub mod Peaks
