pub mod Ranges
pub mod Gaps
pub mod Space
