pub mod Machine
pub mod Words
pub mod Closing
pub mod Areas
