pub mod Drivers
pub mod DriverHolds
pub mod Telling
