pub mod Answering
pub mod Matches
pub mod Moving
