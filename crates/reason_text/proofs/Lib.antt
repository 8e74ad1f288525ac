-- The proofs that belong to no one function: that each promise determines its result, and a worked one.
pub mod Determined
pub mod Example
