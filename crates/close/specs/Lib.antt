pub mod Lent
pub mod FileOutcomes
pub mod Ends
pub mod FirstRefusals
pub mod Closes
pub mod ReportRows
