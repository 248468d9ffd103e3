pub mod Openings
pub mod Seats
pub mod Telling
