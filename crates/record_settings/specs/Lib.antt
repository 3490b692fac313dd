pub mod Last
pub mod Live
pub mod Room
pub mod Rounds
pub mod Settings
pub mod Torn
