mod NumberLemmas
pub mod PartLemmas
