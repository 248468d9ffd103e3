pub mod Bounds
pub mod Going
pub mod Trails
pub mod Shown
pub mod Rising
pub mod Low
pub mod Worked
