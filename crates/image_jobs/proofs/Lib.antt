pub mod BlankLemmas
mod Counts
mod Endings
mod Held
pub mod Labels
pub mod LineLemmas
pub mod MapLemmas
mod ScriptText
mod Served
pub mod ServedLemmas
