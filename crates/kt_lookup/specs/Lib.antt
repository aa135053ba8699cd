pub mod Hash
pub mod Filter
pub mod Index
pub mod Tables
pub mod Tail
