pub mod Least
pub mod Index
mod First
