pub mod IfLists
pub mod Headers
pub mod Elements
pub mod MultiAnswer
