-- The definitions: numbers in decimal, and how a text is kept.
pub mod Text
pub mod Kept
