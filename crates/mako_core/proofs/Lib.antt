pub mod Finishing
pub mod Laws
pub mod Rooms
pub mod Starting
