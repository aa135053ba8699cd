pub mod Fresh
pub mod Mirrored
pub mod Owed
pub mod Taken
pub mod Vacant
pub mod OneAnswer
pub mod Room
