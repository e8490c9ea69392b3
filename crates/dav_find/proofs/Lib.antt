pub mod AskedFields
pub mod Answering
pub mod NameSets
pub mod Each
pub mod Kept
pub mod Responses
pub mod Visits
pub mod ReportLemmas
