pub mod PlaceSums
pub mod Walking
pub mod Close
pub mod Filings
pub mod GivenFile
pub mod Sites
pub mod Years
