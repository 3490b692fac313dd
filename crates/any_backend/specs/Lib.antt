pub mod Blank
pub mod Boot
pub mod ByRole
pub mod Laws
pub mod Standing
