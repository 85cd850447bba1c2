-- What the proofs of several functions use, here and in the crates above.
pub mod Rows
pub mod Walking
pub mod Framing
pub mod Goals
