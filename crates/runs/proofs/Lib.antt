pub mod WordTexts
pub mod Parts
pub mod Each
pub mod RunLaws
pub mod RunSorting
