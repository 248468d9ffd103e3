pub mod Going
pub mod Lowering
pub mod NameWords
pub mod Openings
pub mod Places
