pub mod Worlds
pub mod Tasks
pub mod Report
pub mod Tool
pub mod Complete
pub mod Blank
pub mod Owing
pub mod Exits
