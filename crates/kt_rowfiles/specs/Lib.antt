pub mod Files
pub mod Reading
pub mod Fitting
pub mod Laws
pub mod Records
pub mod Flushing
pub mod Merging
pub mod Taking
