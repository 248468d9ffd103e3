pub mod ClearingFacets
pub mod Notices
pub mod Clearing
pub mod Hearing
pub mod Turning
pub mod Rooms
pub mod Smallness
pub mod Apart
