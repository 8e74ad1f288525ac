pub mod Lent
pub mod Judged
