mod AccountLemmas
mod BlankLemmas
mod BlankOwes
mod ChangeLemmas
mod CommandLines
mod CutLemmas
mod EmptyLemmas
mod FoldLemmas
mod HeldLemmas
pub mod MountLemmas
mod OwesLemmas
pub mod PlaceLemmas
pub mod PowerLemmas
pub mod PrefixLemmas
mod QuietLemmas
mod ReadyLemmas
mod ReplaceLemmas
mod RunLemmas
mod SelectorLemmas
pub mod ServedLemmas
mod SideLemmas
pub mod SoundLemmas
mod TableFacts
mod TableLaws
mod TextLemmas
