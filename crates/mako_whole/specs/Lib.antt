pub mod AllBarriers
pub mod AllCollecting
pub mod AllCollectingScenes
pub mod AllGifts
pub mod AllHoused
pub mod AllNotices
pub mod AllRuns
pub mod AllStanding
