pub mod Best
pub mod Held
pub mod Pairs
pub mod Registry
