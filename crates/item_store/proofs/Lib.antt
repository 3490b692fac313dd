mod AppendFacts
pub mod Areas
mod AskingSteps
pub mod BlankAreas
mod CacheSteps
pub mod CallFacts
pub mod ClosingSteps
pub mod CollectSteps
pub mod CopyLoop
pub mod CostSteps
mod CountSteps
mod EntrySteps
mod FreeSteps
mod KnownSlots
mod Tops
mod HoldingSteps
mod HeldSteps
mod LastIds
mod LastTables
mod LastsSlots
mod LastsWalk
mod ListSteps
mod LiveSteps
mod MarkFacts
mod MountSteps
mod NextSteps
pub mod OlderSteps
mod OpenFacts
pub mod Placings
mod PutFacts
mod PutSteps
mod Ranges
pub mod ReadFacts
pub mod ReadLemmas
mod Reserved
mod RoomFacts
pub mod RoomSteps
mod RoundFacts
mod RoundSteps
mod SearchSteps
pub mod SeenSteps
mod SlotFacts
mod Standings
mod TableFacts
mod TablePlaces
mod IndexSteps
mod PassSteps
pub mod VersionLemmas
mod VersionSteps
mod VersionWrites
mod ViewSteps
mod WriteSteps
mod WrittenFacts
mod WrittenSteps
