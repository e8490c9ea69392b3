pub mod Wrapping
pub mod Hiding
pub mod Recorded
pub mod StoreCalls
pub mod Declining
pub mod Listed
pub mod HidingLaws
pub mod Underway
