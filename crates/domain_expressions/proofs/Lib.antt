-- What the proofs of several functions use, here and in the crates above.
pub mod Sizes
pub mod Referred
pub mod Beginning
pub mod Ends
pub mod Operands
pub mod Whole
pub mod Passed
