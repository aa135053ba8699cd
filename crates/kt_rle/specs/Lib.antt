pub mod Runs
pub mod Held
pub mod Spelling
pub mod Reading
