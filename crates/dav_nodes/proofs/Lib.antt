mod NodeSteps
mod Walks
mod KeyMaps
mod Linking
pub mod BelowKeys
mod KeyMoves
mod Moving
mod Outcomes
pub mod RowSteps
mod Spots
mod LinkedParts
pub mod Pending
mod Loads
mod SameTrees
mod Slots
mod MemberEntries
mod Subtrees
mod NodeMembers
mod Listings
mod Counts
pub mod FlatKeys
