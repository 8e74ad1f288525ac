-- The definitions that a human must believe: the packed property, its reader and its writer.
pub mod Form
pub mod Read
pub mod Write
