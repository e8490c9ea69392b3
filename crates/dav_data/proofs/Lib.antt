pub mod Runs
pub mod SipWords
pub mod Hashing
pub mod Bodies
pub mod Places
pub mod Keeping
pub mod Adding
pub mod Reading
pub mod Growing
pub mod Appending
pub mod Causes
pub mod Collisions
pub mod Claims
mod ClaimedReads
