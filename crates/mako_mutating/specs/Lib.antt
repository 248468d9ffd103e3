pub mod MutatorFacets
pub mod Mutators
pub mod Laws
pub mod Beside
