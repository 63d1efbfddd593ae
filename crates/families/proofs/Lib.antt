pub mod Gathering
pub mod AnyOrder
pub mod Generals
pub mod Alike
pub mod GeneralPairs
pub mod SearchingIn
pub mod GatheringIn
