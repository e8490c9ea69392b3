pub mod Plans
pub mod Slots
pub mod Pending
pub mod Refusing
pub mod InnerLends
