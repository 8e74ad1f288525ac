-- The definitions: a line with a name in it.
pub mod Text
