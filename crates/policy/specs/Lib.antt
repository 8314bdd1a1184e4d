pub mod Clearances
pub mod Narrowing
pub mod PairLists
pub mod PairSets
pub mod Refusals
pub mod Relations
pub mod Theorems
