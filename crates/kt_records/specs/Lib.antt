pub mod Spelling
pub mod Rules
pub mod Fields
pub mod Numbers
pub mod Reading
pub mod Rising
pub mod Shared
pub mod Laws
