pub mod Steps
pub mod ProgressViews
pub mod TallyViews
pub mod SiteRanges
pub mod YearTests
