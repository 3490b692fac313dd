mod AccountLemmas
pub mod BlankLemmas
mod FitLemmas
mod FoldLemmas
pub mod HistoryLemmas
mod LineLemmas
mod MemoryLemmas
mod MountLemmas
mod NumberPairs
pub mod OwesLemmas
mod RestLemmas
mod RoomLemmas
mod RunLemmas
pub mod ServedLemmas
mod StateLemmas
mod TableFacts
mod TableLaws
pub mod ValueLemmas
pub mod WholeLemmas
mod WriteLemmas
