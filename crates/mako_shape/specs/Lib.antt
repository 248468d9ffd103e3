pub mod Limits
pub mod Places
pub mod Belongings
pub mod Starting
