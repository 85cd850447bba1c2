-- What the contracts name.
pub mod Waiting
pub mod Lent
