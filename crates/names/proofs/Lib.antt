-- The proofs that belong to no one function: where a name stands, and what a lookup hands back.
pub mod Spans
pub mod Handing
pub mod Named
pub mod Places
pub mod Determined
