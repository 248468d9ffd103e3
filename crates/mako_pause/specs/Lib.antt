pub mod Collecting
pub mod Keeping
pub mod Opening
pub mod Ranks
pub mod Regions
