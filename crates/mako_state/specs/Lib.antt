pub mod Standings
pub mod Works
pub mod Says
pub mod Carried
pub mod Facets
pub mod CoreStates
pub mod Openings
pub mod Runs
