pub mod Pieces
pub mod Growth
pub mod Changes
