-- What the proofs of several functions use, here and in the crates above.
pub mod Decoding
pub mod Following
pub mod Bounds
pub mod Changed
pub mod Settling
pub mod Turning
pub mod Joining
pub mod Masking
pub mod Showing
pub mod Walking
