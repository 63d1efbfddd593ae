pub mod Places
pub mod Lines
pub mod Pairs
