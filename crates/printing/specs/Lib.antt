pub mod Marked
pub mod Measure
pub mod Paper
pub mod Putting
