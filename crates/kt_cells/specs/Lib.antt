pub mod Spelling
pub mod Rules
pub mod Fields
pub mod Reading
pub mod Tail
pub mod Borrowed
pub mod Spelled
