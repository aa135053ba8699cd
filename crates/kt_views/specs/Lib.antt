pub mod Keys
pub mod KeyLaws
pub mod Tables
pub mod Told
