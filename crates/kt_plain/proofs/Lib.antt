pub mod Fields
pub mod Ends
pub mod NumbersFault
pub mod Within
pub mod TextsFault
pub mod Decoded
pub mod Steps
