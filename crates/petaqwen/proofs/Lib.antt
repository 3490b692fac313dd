mod Served
mod OpenLemmas
mod ReadyLemmas
mod RegisterLemmas
pub mod Values
