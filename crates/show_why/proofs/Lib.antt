-- The loop over the records, and what is told at its end.
pub mod Going
pub mod Told
