-- Laws for the proofs, and worked examples.
mod Digits
mod Examples
