pub mod Held
pub mod Ranks
