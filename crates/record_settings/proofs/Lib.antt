pub mod BodyLemmas
pub mod Coded
pub mod CopyCost
pub mod PrefixLemmas
pub mod LastLemmas
pub mod LiveLemmas
pub mod NextLemmas
pub mod NoRoom
pub mod SeekLemmas
mod SpelledLemmas
pub mod TornLemmas
