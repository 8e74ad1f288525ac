-- What belongs to no one function: no text is empty, the chain of the records, and what was read and what it adds.
pub mod Some
pub mod SoFar
pub mod Listed
