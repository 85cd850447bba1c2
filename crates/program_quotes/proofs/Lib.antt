-- Laws for the proofs, and worked examples.
pub mod Steps
pub mod Examples
