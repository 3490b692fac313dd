mod ActiveLemmas
pub mod CommandLemmas
pub mod CountLemmas
pub mod FollowsLemmas
pub mod PlaceLemmas
mod PlainLemmas
mod PowerLemmas
mod PrefixLemmas
pub mod RunLemmas
mod TornLemmas
