pub mod PlaceSums
pub mod PlaceSumFits
pub mod YearPlaces
pub mod Files
pub mod PlaceFits
pub mod Places
pub mod Fits
