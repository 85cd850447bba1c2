-- What the contracts name.
pub mod Feeding
