pub mod Steps
pub mod Turns
