pub mod Keys
pub mod Literals
pub mod Causes
pub mod Readings
pub mod Listed
pub mod Told
pub mod Borrowed
