pub mod Members
pub mod Form
