pub mod Planning
pub mod Queues
pub mod Refusals
pub mod Listings
pub mod ListingCalls
