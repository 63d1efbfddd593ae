pub mod Resuming
pub mod CoverLaws
pub mod ValueLaws
pub mod Covering
