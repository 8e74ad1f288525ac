-- The proofs that belong to no one function: the wrapped difference, the reader, that each promise determines its result, traces, and a
-- worked one.
pub mod Wrapped
pub mod Reading
pub mod Reader
pub mod Determined
pub mod Card
pub mod Example
