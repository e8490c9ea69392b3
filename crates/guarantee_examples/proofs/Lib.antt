pub mod Guarantees
