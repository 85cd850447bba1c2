-- What the contracts name.
pub mod Keeping
