-- What the proofs of several functions use, here and in the crates above; and worked examples.
pub mod Puts
pub mod Digits
pub mod Whole
pub mod Lengths
pub mod Examples
