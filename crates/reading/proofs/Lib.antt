pub mod Grammar
pub mod Stacks
pub mod NamePlaces
pub mod Rounds
pub mod StacksIn
pub mod RoundsIn
pub mod Keeping
pub mod TextRooms
