pub mod SheetTexts
pub mod Adds
