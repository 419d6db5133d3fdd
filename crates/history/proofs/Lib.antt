pub mod CaseLaws
pub mod YearTables
