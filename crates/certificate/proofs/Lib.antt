pub mod WrittenTexts
pub mod Comparisons
