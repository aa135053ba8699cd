pub mod Digits
pub mod Taken
pub mod Worked
pub mod Forms
