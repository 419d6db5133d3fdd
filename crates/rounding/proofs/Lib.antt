pub mod Laws
pub mod Formulas
pub mod Answers
