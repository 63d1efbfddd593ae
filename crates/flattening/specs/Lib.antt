pub mod Terms
pub mod Items
pub mod Spelling
pub mod Writer
pub mod Writers
