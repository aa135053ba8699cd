pub mod Keys
pub mod Changes
pub mod Stores
pub mod Laws
pub mod Walks
