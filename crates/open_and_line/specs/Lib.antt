pub mod Opens
pub mod LineOutcomes
