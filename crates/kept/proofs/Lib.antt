-- The promise of the call on a kept session fixes what comes back.
pub mod Determined
