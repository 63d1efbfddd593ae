pub mod Calling
pub mod OutputMeaning
