pub mod Columns
pub mod Rowsets
pub mod Body
pub mod Fields
pub mod Slots
pub mod Faults
pub mod Told
pub mod Spellings
