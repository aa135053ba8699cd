pub mod Fit
pub mod Spelling
pub mod Reading
pub mod Order
pub mod Parts
