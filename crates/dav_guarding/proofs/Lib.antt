pub mod Allowing
pub mod Guards
pub mod Reading
