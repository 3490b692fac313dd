mod Lacks
pub mod Joins
pub mod MatchLemmas
mod Faults
pub mod KeyLemmas
pub mod NameTest
