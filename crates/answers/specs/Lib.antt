pub mod Deciding
pub mod Settling
