pub mod Policy
pub mod Guard
pub mod Guarding
pub mod InnerLends
