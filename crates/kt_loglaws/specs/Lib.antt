pub mod Replay
pub mod Laws
pub mod Fronts
pub mod Appended
pub mod Side
