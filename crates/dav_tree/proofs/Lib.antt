pub mod OrderedKeys
pub mod PropertyMaps
pub mod Patching
pub mod Named
pub mod Answering
pub mod Modifying
pub mod MemoryListings
pub mod Rows
pub mod Sound
pub mod Marking
pub mod WrittenBytes
pub mod Keeping
pub mod Sums
pub mod Outcomes
pub mod Editing
pub mod Totals
pub mod Places
pub mod Effects
pub mod PastTrees
pub mod Below
pub mod Starting
pub mod Listings
pub mod Dumps
pub mod Firsts
mod Sweeping
mod Saving
mod EachEntry
mod Soundness
mod Naming
mod Loaded
pub mod Padding
