pub mod LogOrder
pub mod Replays
pub mod Fronts
pub mod Sides
pub mod Appended
pub mod Worked
