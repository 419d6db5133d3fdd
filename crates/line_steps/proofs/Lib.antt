pub mod SiteSteps
pub mod InWinter
pub mod PointSteps
pub mod OnAxis
pub mod ReadingSteps
pub mod YearSteps
pub mod Dispatch
