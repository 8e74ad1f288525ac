pub mod Printed
pub mod Lent
pub mod Listing
