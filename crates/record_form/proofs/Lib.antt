-- The proofs that belong to no one function: the rules case by case, what tells a result, a form of three fields, reader and writer, that each promise determines its
-- result, and the round trip of a record.
pub mod Rules
pub mod Cases
pub mod Reading
pub mod Parts
pub mod Writing
pub mod Determined
pub mod RoundTrip
