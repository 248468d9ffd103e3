pub mod Serving
pub mod Kept
