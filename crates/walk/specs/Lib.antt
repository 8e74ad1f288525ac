pub mod Walk
pub mod Lent
