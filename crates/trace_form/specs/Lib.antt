-- The definitions that a human must believe: lists of records, and what a record stands for on a session.
pub mod Trace
pub mod ReadAs
