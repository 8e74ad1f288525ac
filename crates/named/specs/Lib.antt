-- The definitions that a human must believe: the listing with names. `Insert`, which only the private functions name, comes last.
pub mod Named
pub mod Listing
pub mod Insert
