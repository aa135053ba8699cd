pub mod File
pub mod Order
pub mod Rules
pub mod Spelling
pub mod Fields
pub mod Reading
pub mod Laws
