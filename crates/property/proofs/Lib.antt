-- Facts of sequences, and what refusals 1, 2 and 3 say of a property, for the proofs of this crate and of those above it.
pub mod Sequence
pub mod Refusal
pub mod Determined
