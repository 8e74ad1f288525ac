-- The laws of `specs/Fields.antt`, for every width, that this crate's proofs and those of each packed form cite.
pub mod Laws
pub mod Packed
pub mod Rest
pub mod Determined
