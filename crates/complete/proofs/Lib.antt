pub mod Rooms
pub mod Judgements
pub mod Deciding
pub mod Asking
pub mod JudgingIn
pub mod InstancesIn
pub mod RunsIn
pub mod CompletingIn
