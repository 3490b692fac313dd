mod AppendFacts
pub mod Appending
mod Appends
pub mod Blank
mod CallFacts
mod Cuts
pub mod EntryBytes
mod Examples
pub mod Holders
mod IgnoredSectors
pub mod InArea
pub mod LastLemmas
pub mod Lookups
mod MarkPutting
pub mod Marks
mod MountLemmas
pub mod NvsEntries
mod Putting
mod Room
pub mod ScanLemmas
mod SlotPutting
pub mod SlotReads
pub mod Sound
pub mod Views
mod Walking
pub mod WantedSlots
mod WideExamples
