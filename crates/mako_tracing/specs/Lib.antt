pub mod Laws
pub mod Resting
pub mod ServerFacets
pub mod ServerKeeps
pub mod ServerLives
