-- Equality up to order and grouping of sums: what it keeps, and that canonical texts decide it.
pub mod Kept
pub mod Sound
pub mod Texts
pub mod Normal
pub mod Rebuilding
pub mod Regrouping
pub mod Canonical
pub mod Building
pub mod Bags
pub mod Summands
pub mod RightNested
