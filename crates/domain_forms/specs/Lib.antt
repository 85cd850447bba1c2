-- What the contracts name.
pub mod Stored
