pub mod Shelf
pub mod Parts
pub mod Takes
pub mod Leaving
pub mod Stats
pub mod Ranges
