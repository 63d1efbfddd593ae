pub mod Stack
pub mod Differing
pub mod Area
pub mod Areas
pub mod Fronts
