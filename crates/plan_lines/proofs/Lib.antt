-- What the proofs of several functions use.
pub mod Names
pub mod Plain
pub mod Knowing
pub mod Marks
pub mod Lasts
pub mod Objects
pub mod Acts
