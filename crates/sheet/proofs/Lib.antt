pub mod Words
pub mod LineLaws
