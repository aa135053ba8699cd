pub mod Gain
pub mod Sums
pub mod Choice
pub mod Steps
pub mod Laws
