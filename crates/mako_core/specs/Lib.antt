pub mod Turns
pub mod Cores
pub mod Endings
