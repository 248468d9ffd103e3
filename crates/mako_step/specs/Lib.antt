pub mod Acts
pub mod Machines
pub mod Stepping
pub mod Trails
