mod FieldLemmas
mod HeaderLemmas
mod ImageLemmas
mod LawfulLemmas
mod ReadingLemmas
mod RowLemmas
pub mod SaidLemmas
mod WritingLemmas
mod NumberLemmas
mod SpecLemmas
pub mod OneSpecLemmas
pub mod ServingLemmas
