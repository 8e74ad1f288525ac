pub mod Steps
pub mod Fronts
