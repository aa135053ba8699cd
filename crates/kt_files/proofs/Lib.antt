pub mod Names
pub mod Removals
pub mod Lists
pub mod Contents
pub mod OneHolding
pub mod SameFiles
pub mod OneFault
