pub mod Damages
pub mod Erased
mod Examples
mod FitCosts
pub mod FormatLemmas
mod MountLemmas
pub mod PassedSlots
pub mod Roomy
pub mod Sectors
pub mod StepLemmas
mod ZmsEntries
