pub mod OpeningGroups
pub mod OpeningSits
pub mod Telling
