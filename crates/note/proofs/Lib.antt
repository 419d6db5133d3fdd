pub mod Table
pub mod Annual
pub mod Factors
pub mod History
pub mod PeakDays
pub mod HistoryPeaks
