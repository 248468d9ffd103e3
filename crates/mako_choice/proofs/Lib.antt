pub mod Candidates
pub mod ChoiceExamples
pub mod OneChoice
pub mod Places
