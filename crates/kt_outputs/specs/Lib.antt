pub mod Outputs
pub mod Named
pub mod Rewriting
pub mod InPlace
pub mod Fewer
pub mod Again
