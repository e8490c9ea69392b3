pub mod Images
pub mod Keeping
pub mod Steps
pub mod Ends
pub mod Loading
