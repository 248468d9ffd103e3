pub mod Settling
pub mod Counts
pub mod Loads
