pub mod Commands
pub mod Forms
pub mod Laws
pub mod Operands
