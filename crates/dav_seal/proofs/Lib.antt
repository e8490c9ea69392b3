pub mod TotalLemmas
pub mod EntryLemmas
pub mod HeldLemmas
pub mod SealLemmas
pub mod Unsealed
pub mod StoreLemmas
pub mod FrontLemmas
pub mod LawLemmas
