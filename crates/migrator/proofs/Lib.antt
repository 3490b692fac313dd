pub mod AreaLemmas
pub mod Values
pub mod Latest
mod ErrLemmas
mod Choices
mod Collecting
mod Putting
pub mod ErasesLeft
pub mod Names
pub mod Spent
pub mod Copies
pub mod Moving
pub mod Migration
pub mod Puts
