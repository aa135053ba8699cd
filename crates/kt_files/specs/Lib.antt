pub mod Refusal
pub mod Named
pub mod Bytes
pub mod Reading
pub mod Held
pub mod Content
pub mod Laws
