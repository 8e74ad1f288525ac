pub mod Judging
pub mod Bounds
pub mod Determined
