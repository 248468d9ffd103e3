pub mod Laws
pub mod Polls
pub mod Steps
pub mod Worlds
