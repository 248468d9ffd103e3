pub mod Calling
pub mod Clauses
pub mod Kept
pub mod Places
pub mod Pointwise
pub mod Replaying
pub mod Rising
pub mod Starving
