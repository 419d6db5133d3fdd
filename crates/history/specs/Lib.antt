pub mod Years
pub mod Fits
pub mod Cases
pub mod ValidYears
