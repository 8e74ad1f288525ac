-- The lines of a run, judged: all of them, and what is left of them behind a beginning of an order.
pub mod Left
pub mod Whole
pub mod Judgement
pub mod Rest
-- The order that is written is the first.
pub mod Channel
pub mod Placing
pub mod Showing
pub mod Route
-- The call's answer, and that it is one.
pub mod Explaining
pub mod Answers
pub mod Determined
