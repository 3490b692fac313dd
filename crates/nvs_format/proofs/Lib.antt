pub mod FindLemmas
pub mod FormatLemmas
pub mod HolderLemmas
pub mod StepLemmas
pub mod UnitRows
