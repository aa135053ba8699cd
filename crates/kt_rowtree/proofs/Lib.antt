pub mod Upto
pub mod Found
pub mod Linked
pub mod Counted
pub mod Deep
pub mod Changing
pub mod Placing
pub mod Permuted
