pub mod Recursion
pub mod TableRows
pub mod Sequences
pub mod Endings
pub mod Falling
