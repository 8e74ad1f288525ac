-- The definitions that a human must believe, in the order of document 01.
pub mod Limits
pub mod Words
pub mod Node
pub mod Numbers
pub mod Calls
pub mod Matcher
pub mod Step
pub mod Fronts
pub mod History
pub mod Cases
