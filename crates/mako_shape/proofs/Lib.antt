pub mod Ranges
pub mod Products
pub mod Cells
pub mod Rows
pub mod Decode
pub mod PlaceLaws
pub mod BelongingLaws
