-- What the proofs of several functions use.
pub mod Digits
pub mod Objects
pub mod Indexed
pub mod States
pub mod Ways
pub mod Holding
