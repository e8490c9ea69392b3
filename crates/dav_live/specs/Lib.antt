pub mod Viewing
pub mod Names
pub mod Moments
pub mod Texts
pub mod Quota
pub mod Rows
pub mod Live
