-- What the proofs of several functions use, here and in the crates above.
pub mod Kept
pub mod Givens
pub mod Wanted
pub mod Signing
pub mod Signatures
pub mod Taken
