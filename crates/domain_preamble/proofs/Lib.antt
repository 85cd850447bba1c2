-- What the proofs of several functions use, here and in the crates above.
pub mod Missing
pub mod Stored
pub mod Ways
