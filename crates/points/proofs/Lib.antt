pub mod PlacePoints
pub mod DonorOrigins
pub mod Gathered
