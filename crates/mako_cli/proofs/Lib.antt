mod Loads
mod Replays
