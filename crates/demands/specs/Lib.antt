pub mod Exact
pub mod CallLists
pub mod Demands
pub mod Witness
