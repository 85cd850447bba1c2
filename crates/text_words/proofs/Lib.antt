-- What the proofs of several functions use, here and in the crates above.
pub mod Named
pub mod Others
pub mod Ranges
pub mod Steps
