-- The proofs that belong to no one function: the digits of a number and that they read back, and the largest number.
pub mod Kept
pub mod Digits
pub mod ReadsBack
pub mod Example
