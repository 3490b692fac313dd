pub mod Hash
pub mod IdLayout
pub mod Members
pub mod Standing
