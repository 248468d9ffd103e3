pub mod Clauses
pub mod Deaths
pub mod Replays
pub mod Setups
pub mod Trials
pub mod Verdicts
