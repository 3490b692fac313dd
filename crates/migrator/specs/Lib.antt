pub mod Active
pub mod Areas
pub mod Choosing
pub mod Copying
pub mod Migrating
