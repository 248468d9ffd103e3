mod Parts
pub mod StreamLemmas
