pub mod IdLayout
pub mod Members
pub mod Standing
