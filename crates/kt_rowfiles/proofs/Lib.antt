pub mod Ordered
pub mod Places
pub mod Options
pub mod Flushing
pub mod Merging
pub mod TakenSteps
pub mod Fitting
