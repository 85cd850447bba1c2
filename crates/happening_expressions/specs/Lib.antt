-- What the contracts name.
pub mod Evaluated
