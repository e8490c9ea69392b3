pub mod Exits
pub mod PieceReads
pub mod KeyLemmas
pub mod PathCells
pub mod PathReads
pub mod LockCells
