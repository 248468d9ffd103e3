pub mod Allocating
pub mod Causes
pub mod Notes
pub mod Seen
pub mod Standings
pub mod Examples
