-- The definitions that a human must believe: the text of the listing, and of a line with a name.
pub mod Text
pub mod Named
