pub mod Rows
pub mod Years
pub mod Chains
