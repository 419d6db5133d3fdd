pub mod ReadEnds
pub mod PrintedSheets
