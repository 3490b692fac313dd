mod Appends
mod AreaFacts
mod Bytes
mod CloseCalls
pub mod CopyCalls
mod EmptyCalls
mod Ends
mod EntryCalls
pub mod EntryReads
pub mod ErasedSlots
pub mod Frames
pub mod GuardUnits
mod HoldingSteps
mod Marks
mod OverwrittenValue
mod PairCalls
pub mod Scanning
pub mod SlotSearch
pub mod Slots16
mod StepBounds
mod UnitCalls
