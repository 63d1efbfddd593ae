pub mod Rendering
pub mod Lengths
pub mod Puts
