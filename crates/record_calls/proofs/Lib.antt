pub mod EqualViews
pub mod Opens
