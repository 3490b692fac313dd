pub mod Items
pub mod Room
pub mod Standing
pub mod Appending
pub mod Dropping
pub mod Filled
pub mod Scripts
