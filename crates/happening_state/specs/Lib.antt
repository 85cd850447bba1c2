-- What the contracts name.
pub mod States
pub mod Masks
