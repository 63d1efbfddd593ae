pub mod Rules
pub mod Arguments
pub mod Fired
