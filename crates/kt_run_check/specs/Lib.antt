pub mod Words
pub mod Sources
pub mod Checks
