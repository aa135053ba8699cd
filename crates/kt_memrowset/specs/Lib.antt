pub mod Links
pub mod Times
pub mod Stores
pub mod Taking
pub mod Writes
pub mod Laws
pub mod Ending
