pub mod ContentLaws
pub mod Days
pub mod Columns
pub mod PartialYears
pub mod Lacking
pub mod Profiled
