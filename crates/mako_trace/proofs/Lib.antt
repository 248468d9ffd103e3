pub mod Names
pub mod Known
pub mod Lowering
pub mod Stages
pub mod SameServer
