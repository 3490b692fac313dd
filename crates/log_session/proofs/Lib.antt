mod AccountLemmas
mod FoldLemmas
pub mod HistoryLemmas
mod LineLemmas
mod MountLemmas
pub mod OwesLemmas
mod PutLemmas
mod ReachLemmas
mod RunLemmas
pub mod ServedLemmas
pub mod StoredLemmas
mod TableFacts
mod TableLaws
mod WalkSteps
