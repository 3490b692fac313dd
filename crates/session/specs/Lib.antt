pub mod Handling
pub mod Lists
pub mod OnMap
pub mod Mounting
pub mod Moving
pub mod Owing
pub mod Texts
