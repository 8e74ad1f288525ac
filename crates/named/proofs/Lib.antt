-- The proofs that belong to no one function: what a name is put into, and that each promise determines its result.
pub mod Lines
pub mod Determined
