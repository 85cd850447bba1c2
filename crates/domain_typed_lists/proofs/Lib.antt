-- What the proofs of several functions use, here and in the crates above.
pub mod Next
pub mod Outcomes
pub mod Typing
pub mod Going
pub mod Declaring
