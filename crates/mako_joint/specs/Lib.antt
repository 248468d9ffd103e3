pub mod Bridges
pub mod Joints
pub mod Kinds
pub mod Openings
