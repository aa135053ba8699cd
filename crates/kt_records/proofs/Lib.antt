pub mod Items
pub mod Operations
pub mod Commits
pub mod Records
pub mod Numbers
pub mod Listed
pub mod Shared
pub mod Tops
