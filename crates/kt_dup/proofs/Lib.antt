pub mod Lists
pub mod Split
pub mod Between
pub mod Sides
pub mod Pair
pub mod Told
pub mod Worked
