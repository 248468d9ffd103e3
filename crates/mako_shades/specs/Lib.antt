pub mod Examples
pub mod Holding
pub mod Laws
pub mod Serving
pub mod Stands
pub mod Steps
