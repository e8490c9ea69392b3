pub mod Batches
pub mod Crashes
pub mod Images
pub mod Slots
