-- How a run is kept, what was read so far, and that what is kept is the run that is open.
pub mod Keeping
pub mod Reading
pub mod Standing
