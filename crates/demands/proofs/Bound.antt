-- Demand 3 over one filing: how far the level lies from the exact fraction.
pub mod Near
pub mod Sane
pub mod Years
pub mod Lowest
pub mod Intervals
pub mod Places
pub mod Sources
pub mod Counted
pub mod Theorem
pub mod Rows
