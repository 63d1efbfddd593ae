pub mod Rooms
pub mod Solutions
pub mod DecidingIn
pub mod NamingIn
pub mod SolvingIn
