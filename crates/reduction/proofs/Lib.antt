pub mod Becoming
pub mod NormalForms
