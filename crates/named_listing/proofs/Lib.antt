-- What belongs to no one function: no text is empty, and the chain of the records in the listing with names.
pub mod Some
pub mod Listed
