pub mod Sweeps
pub mod Lines
