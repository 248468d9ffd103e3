pub mod Gating
pub mod Hearing
pub mod Housing
pub mod Moments
pub mod Phasing
pub mod Telling
