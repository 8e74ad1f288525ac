-- The definitions that a human must believe: fields of whole bits, and the rest that a reader hands back.
pub mod Fields
pub mod Rest
