pub mod Starting
pub mod Judging
