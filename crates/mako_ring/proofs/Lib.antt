pub mod Turns
pub mod Contents
pub mod Over
pub mod RingLaws
pub mod Words
pub mod Answering
pub mod Found
