pub mod History
pub mod Laws
pub mod Searches
pub mod Usage
