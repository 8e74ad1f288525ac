-- The definitions that a human must believe: the two forms of a record, what the next record adds, and which text is the next of a listing.
pub mod Form
pub mod Next
