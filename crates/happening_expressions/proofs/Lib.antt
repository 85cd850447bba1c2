-- What the proofs of several functions use, here and in the crates above.
pub mod Shapes
pub mod Ranging
pub mod Numerals
pub mod Framing
