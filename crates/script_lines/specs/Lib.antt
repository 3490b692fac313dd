pub mod Forms
pub mod Line
pub mod Script
pub mod Laws
pub mod Answer
pub mod Plan
pub mod Generator
pub mod Transcript
