pub mod Forms
pub mod LetterLaws
pub mod Readers
pub mod Capped
pub mod Checks
pub mod TagLaws
pub mod Rows
pub mod ValueChecks
