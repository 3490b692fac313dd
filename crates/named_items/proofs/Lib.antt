pub mod ChangeSteps
pub mod CostLemmas
pub mod EmptySteps
pub mod FormatSteps
pub mod CandidateLemmas
mod ItemSteps
mod KeepSteps
pub mod LawfulLemmas
mod ListingSteps
pub mod LeavingSteps
pub mod LookupSteps
mod MostUnits
pub mod NameLemmas
pub mod NewSteps
mod NvsSteps
mod OtherSteps
pub mod PairLemmas
mod IdSteps
mod PutSteps
pub mod RangePairs
mod RemovalUnits
mod RemovedSteps
mod RingSteps
pub mod RoomLemmas
mod SeenSteps
mod SetSteps
mod SoFar
pub mod SpendSteps
pub mod OrphanLemmas
pub mod OrphanSteps
pub mod OrphanUnits
mod ZmsSteps
