pub mod RunLists
pub mod Held
pub mod FirstFault
pub mod Told
pub mod Decoded
pub mod Once
