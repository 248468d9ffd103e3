pub mod Touching
pub mod Copies
pub mod Mutators
pub mod Servers
pub mod Collectors
