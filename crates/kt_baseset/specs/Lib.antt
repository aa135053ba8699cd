pub mod Rows
pub mod Tables
pub mod Asked
pub mod Spelling
pub mod Reading
pub mod Fields
pub mod Laws
