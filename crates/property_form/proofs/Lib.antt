-- The laws of the packed property's parts, of its bits, and of the answers of reader and writer; the two round trips.
pub mod Laws
pub mod FormBits
pub mod Answers
pub mod ReadBits
pub mod RoundTrip
pub mod Determined
pub mod Example
