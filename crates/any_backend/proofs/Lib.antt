pub mod Blanks
mod BootLemmas
pub mod TestBeds
mod UnitSteps
