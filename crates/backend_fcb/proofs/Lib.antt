pub mod Blank
mod AllSteps
mod BodyAt
mod BodyOf
mod Collected
mod CopySteps
mod CostSteps
mod Ends
mod PrefixNames
mod CompactionSteps
mod Limits
mod LookupSteps
mod MountUnits
mod NameSteps
mod PartLists
mod PutSteps
pub mod PutsCosts
mod RingLists
mod SectorLists
mod TableLaws
mod Tearing
mod TryLemmas
pub mod WalkLemmas
mod DueLemmas
