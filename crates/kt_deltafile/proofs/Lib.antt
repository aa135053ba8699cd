pub mod Sorted
pub mod Rooms
pub mod Parts
pub mod Files
pub mod Newest
