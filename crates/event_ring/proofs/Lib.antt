pub mod ItemLemmas
mod PartLemmas
mod KeptLemmas
mod MountSteps
mod PutSteps
mod DueSteps
mod GrownSteps
mod PrefixLemmas
mod EndLemmas
mod DropSteps
mod CountSteps
pub mod FullLemmas
pub mod LogSteps
pub mod ScriptLemmas
