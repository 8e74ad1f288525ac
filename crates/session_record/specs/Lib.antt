pub mod Record
pub mod Step
pub mod Lent
pub mod Loan
