pub mod Keys
pub mod Flying
pub mod Held
pub mod Waits
