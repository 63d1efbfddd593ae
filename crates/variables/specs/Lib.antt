pub mod Ordered
pub mod Variables
pub mod Listing
pub mod Pairing
pub mod Areas
