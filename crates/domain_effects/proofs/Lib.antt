-- What the proofs of several functions use, here and in the crates above.
pub mod Leading
pub mod Facts
pub mod Changing
pub mod Deleting
pub mod Listing
pub mod Whole
