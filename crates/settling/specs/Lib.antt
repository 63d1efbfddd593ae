pub mod Divisions
pub mod Orders
