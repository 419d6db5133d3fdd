pub mod Views
pub mod Reads
pub mod Ranges
pub mod Tags
pub mod Codes
pub mod ValueRanges
pub mod Rows
