pub mod Makings
pub mod Stages
pub mod Going
