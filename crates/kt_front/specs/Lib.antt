pub mod Spelling
pub mod Reading
pub mod Walk
pub mod Walking
pub mod Items
pub mod Order
