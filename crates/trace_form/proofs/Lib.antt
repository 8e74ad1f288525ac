-- The round trip of a trace, what a record stands for, what is used of a reader, and a worked trace.
pub mod Trace
pub mod ReadAs
pub mod Reader
pub mod Example
