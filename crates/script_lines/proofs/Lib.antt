pub mod FieldLemmas
pub mod FormLemmas
mod TableFacts
mod FirstWords
mod ScriptLemmas
pub mod ScriptLaws
pub mod TextLemmas
mod NameTexts
mod PlanLemmas
mod GeneratorLemmas
mod Tokens
mod WordTexts
mod JsonNames
mod Transcripts
pub mod EachRead
