-- Moments, the first order, its numbers, the line.
pub mod Earliest
pub mod First
pub mod Reached
pub mod Verdicts
pub mod Search
pub mod Questions
pub mod Exists
pub mod Numbers
pub mod Lines
