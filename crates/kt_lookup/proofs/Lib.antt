pub mod BitSets
pub mod OneFilter
pub mod Halves
pub mod Search
pub mod FieldsAt
mod Worked
