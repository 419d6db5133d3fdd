pub mod Held
pub mod Bound
pub mod Sane
pub mod Demand1
pub mod Demand2
pub mod Demand3
pub mod Witness
pub mod SomePoints
