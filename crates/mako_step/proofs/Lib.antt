pub mod Cases
pub mod Along
