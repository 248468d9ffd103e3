pub mod Gifts
pub mod Moments
pub mod Rising
pub mod Roles
pub mod Standing
