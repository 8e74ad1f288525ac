-- The proofs that belong to no one function.
pub mod Standing
pub mod Listed
pub mod Tidied
pub mod Walks
pub mod Determined
pub mod Listing
pub mod Whole
