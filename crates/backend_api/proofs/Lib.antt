pub mod CommandLemmas
pub mod KeyLemmas
pub mod LeastLemmas
pub mod ListedPairs
pub mod MapLemmas
