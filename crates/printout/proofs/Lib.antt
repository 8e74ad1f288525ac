-- The proofs that belong to no one function: that each promise determines its result, and document 01's listing.
pub mod Determined
pub mod Example
