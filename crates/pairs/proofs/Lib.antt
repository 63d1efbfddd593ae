pub mod Ahead
pub mod ReadingPairs
