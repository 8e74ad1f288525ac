-- What it means that a verdict stays told, and a run whose verdict falls where a rule is dropped.
pub mod Stays
pub mod Falls
