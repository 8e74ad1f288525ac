pub mod SetStep
pub mod Moves
pub mod Words
pub mod Moving
