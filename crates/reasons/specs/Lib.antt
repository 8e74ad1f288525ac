-- The definitions that a human must believe: the order that is shown, its moments and numbers, and the line.
pub mod Reasons
