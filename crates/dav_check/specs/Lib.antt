pub mod Checking
pub mod Pending
pub mod Reading
