pub mod Drawn
pub mod Proper
