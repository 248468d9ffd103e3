pub mod Regions
pub mod Copying
pub mod Runs
