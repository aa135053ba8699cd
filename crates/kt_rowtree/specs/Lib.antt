pub mod Ids
pub mod Ranges
