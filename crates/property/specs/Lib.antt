pub mod Meant
pub mod Zeros
