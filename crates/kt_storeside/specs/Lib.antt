pub mod Supers
pub mod Turns
pub mod Published
pub mod Sides
pub mod Next
