pub mod Language
pub mod LanguageList
pub mod Live
pub mod Property
pub mod Propstat
pub mod Groups
pub mod Update
pub mod UpdateLaws
