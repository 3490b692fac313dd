pub mod Ends
pub mod Spending
pub mod Standing
