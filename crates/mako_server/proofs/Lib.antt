pub mod Beginnings
pub mod Going
