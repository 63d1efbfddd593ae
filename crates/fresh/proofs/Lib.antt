pub mod Indexing
pub mod Finding
pub mod FreshCells
pub mod TermLaws
pub mod ChoosingLaws
