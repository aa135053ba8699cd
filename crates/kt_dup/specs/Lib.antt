pub mod Split
pub mod Sides
pub mod Missed
pub mod Laws
