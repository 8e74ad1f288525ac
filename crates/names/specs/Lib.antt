-- The definitions that a human must believe: what a lookup hands back.
pub mod Lookup
