pub mod Copies
pub mod Padded
pub mod Views
