pub mod Named
pub mod Standing
pub mod Published
pub mod Sides
pub mod Gates
pub mod NextMeta
pub mod Turning
pub mod Fresh
