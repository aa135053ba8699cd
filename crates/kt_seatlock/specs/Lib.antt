pub mod Trails
pub mod Views
pub mod Rule
pub mod Steps
pub mod Passes
pub mod Journal
pub mod Refusals
