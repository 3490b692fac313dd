pub mod Ends
pub mod Places
pub mod Standing
pub mod UnitTable
