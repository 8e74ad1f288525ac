-- One line more at the end of a run; that the verdict never falls; of calls and lost lines; why a lower bound of 1 is needed.
pub mod Breaking
pub mod Places
pub mod OneMore
pub mod NeverFalls
pub mod Calls
pub mod Needed
