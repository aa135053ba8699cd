pub mod First
pub mod Names
pub mod Columns
pub mod Rows
