pub mod Turns
pub mod Orders
pub mod SumTrees
pub mod Shuts
pub mod Sums
pub mod AtomTrees
pub mod Numbers
