pub mod Encoded
pub mod Live
pub mod Lines
pub mod Single
pub mod Parts
pub mod Whole
pub mod Asking
