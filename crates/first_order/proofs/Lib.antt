pub mod WithLine
pub mod NextPlace
pub mod Choices
pub mod Orders
pub mod Writing
