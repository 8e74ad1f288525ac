pub mod Judge
pub mod Version
