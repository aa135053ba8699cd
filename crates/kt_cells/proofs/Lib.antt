pub mod Items
pub mod Cells
pub mod InPlace
pub mod Spelled
pub mod Walked
pub mod Only
