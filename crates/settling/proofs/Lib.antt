pub mod Dividing
pub mod Joining
pub mod Arranging
pub mod Settling
pub mod Summands
pub mod Canonicals
pub mod CanonTexts
pub mod NameWords
