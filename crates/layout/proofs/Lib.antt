pub mod Columns
pub mod Rooms
pub mod Turns
pub mod Entering
pub mod Laying
