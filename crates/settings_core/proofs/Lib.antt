mod CallLemmas
mod CarryLemmas
mod UnitLemmas
mod CommitLemmas
mod OfferLemmas
pub mod ListedLemmas
mod SeatLemmas
mod PlacedLemmas
mod GiveLemmas
mod LoadLemmas
mod SequenceLemmas
mod SaveLemmas
mod ReportedLemmas
mod DirectLemmas
mod LawLemmas
pub mod LawfulLemmas
mod StoredLemmas
