pub mod Runs
pub mod TokenEnds
pub mod TokenList
pub mod Meanings
