pub mod ListLemmas
pub mod ReadLemmas
pub mod AttributeLemmas
pub mod NodeLemmas
pub mod WriteLemmas
pub mod PartWrites
pub mod TreeWrites
mod Examples
pub mod HeaderLemmas
