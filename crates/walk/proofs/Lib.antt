pub mod Lost
pub mod Steps
pub mod Dids
pub mod Going
pub mod Tidied
pub mod Determined
pub mod Chunks
