mod BestLemmas
mod LongestLemmas
mod PairLemmas
mod RegistryLemmas
