-- The definitions that a human must believe: the record.
pub mod Record
