pub mod Area
pub mod Formats
pub mod Parts
pub mod Lookup
pub mod Units
pub mod Opens
