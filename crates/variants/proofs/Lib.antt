pub mod NameLaws
pub mod Lookups
pub mod EntryLaws
pub mod ReadingMembers
pub mod Claiming
pub mod ClaimingIn
