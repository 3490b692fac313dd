pub mod Match
pub mod Name
pub mod NameFault
