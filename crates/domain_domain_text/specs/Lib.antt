-- What the contracts name.
pub mod Knowing
