pub mod OutlineLines
pub mod Prefixes
pub mod Tokens
