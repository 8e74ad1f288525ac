pub mod Lines
pub mod Advances
