pub mod Widths
pub mod Items
pub mod Spelling
pub mod Reading
