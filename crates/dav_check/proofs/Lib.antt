pub mod Counting
pub mod Course
pub mod Lists
pub mod Members
pub mod PieceReads
pub mod Walk
