-- The proofs that belong to no one function: the laws of a list's entries, that a list is taken exactly if entries by the rules are packed
-- so, and that its meaning determines it.
pub mod Lists
pub mod Good
pub mod Packed
pub mod Meaning
pub mod Determined
