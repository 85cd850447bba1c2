-- What the contracts name.
pub mod Ranged
