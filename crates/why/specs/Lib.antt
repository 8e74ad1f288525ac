-- What a human must believe of the call.
pub mod Why
