-- The definitions that a human must believe: the text of reasons.
pub mod Reason
