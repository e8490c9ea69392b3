pub mod Moment
pub mod HttpDate
pub mod CreationDate
