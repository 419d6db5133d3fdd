pub mod LetterKinds
pub mod Laws
pub mod ColumnLengths
pub mod Columned
mod CopiedColumns
