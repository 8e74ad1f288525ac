-- The definitions that a human must believe: the card's record, and its traces.
pub mod Tap
pub mod Card
