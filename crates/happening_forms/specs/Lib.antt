-- What the contracts name.
pub mod Summed
