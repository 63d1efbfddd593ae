-- Sorts: their order, where two of them meet, the test against the declaration, what well-sorted substitutions keep, and what they can give.
pub mod Sorting
pub mod Square
pub mod Membership
pub mod Instances
pub mod Refining
