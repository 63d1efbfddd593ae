pub mod LeafLaws
pub mod SortNames
pub mod LeafSorts
