pub mod Folds
pub mod Alone
pub mod Answered
pub mod Counted
pub mod Loads
