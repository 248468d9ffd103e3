pub mod Calls
pub mod PrintedTexts
pub mod Progress
