pub mod Errors
pub mod Cells
pub mod Pieces
pub mod Elements
pub mod Paths
pub mod Locks
