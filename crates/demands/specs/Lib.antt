-- The words in which the demands speak of calls, packed forms, traces, what is printed, names and orders.
pub mod Refuses
pub mod Called
pub mod Ring
pub mod Packed
pub mod Texts
pub mod Lost
pub mod Traces
pub mod Uses
pub mod Listing
pub mod Names
pub mod Told
pub mod Why
