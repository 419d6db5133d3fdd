-- The definitions once more, in plain words: for all, there is, and, or, not. The proofs show that they say the same.
pub mod Dates
pub mod Tables
pub mod Lines
pub mod Years
pub mod Close
pub mod Look
pub mod Points
pub mod Input
pub mod Calls
pub mod Examples
pub mod Stores
pub mod Ranges
