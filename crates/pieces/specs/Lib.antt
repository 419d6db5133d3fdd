pub mod Run
pub mod Parts
pub mod Promise
pub mod Joined
pub mod NextLines
