-- Definitions beside document 01's, which laws and contracts are stated with.
pub mod Memory
pub mod Parts
pub mod Schemes
pub mod Unspelled
pub mod Closing
pub mod Sorting
pub mod Laying
