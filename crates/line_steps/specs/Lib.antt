pub mod Places
pub mod PointAnswers
pub mod ReadingAnswers
