pub mod Takes
pub mod Doing
