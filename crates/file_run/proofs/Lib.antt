pub mod Fresh
pub mod WholeInput
pub mod ReadLoop
