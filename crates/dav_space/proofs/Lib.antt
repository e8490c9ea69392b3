pub mod Facts
pub mod Changes
pub mod Limits
pub mod RoomChanges
pub mod SpaceFacts
pub mod Ends
pub mod GapFacts
