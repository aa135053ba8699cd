pub mod Spelling
pub mod Items
pub mod Reading
pub mod Walk
pub mod Writing
