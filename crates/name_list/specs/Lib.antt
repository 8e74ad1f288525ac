-- The definitions that a human must believe: a list of names, what it means, and its refusal by what was read of it.
pub mod Names
pub mod Front
pub mod Read
