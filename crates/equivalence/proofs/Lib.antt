pub mod Wording
pub mod Canons
pub mod Comparing
pub mod TreeWords
pub mod TwoTexts
