-- The definitions that a human must believe: what was read of a list, and which text is the next of the listing with names.
pub mod Next
