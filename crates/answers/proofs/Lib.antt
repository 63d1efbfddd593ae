pub mod Gives
pub mod Decides
pub mod Told
