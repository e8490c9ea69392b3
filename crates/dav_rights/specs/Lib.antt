pub mod Rights
pub mod Rules
pub mod Access
pub mod Prefixes
pub mod Decisions
pub mod Moves
pub mod Named
