-- What the proofs of several functions use.
pub mod Marking
pub mod Meeting
pub mod Going
pub mod Reading
pub mod Writing
pub mod Given
pub mod Crossing
