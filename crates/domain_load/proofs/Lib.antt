-- Laws that the proofs use, and what is said of load: its model is read back; and the bench as numbers.
pub mod Joined
pub mod Laying
pub mod Preparing
pub mod Kept
pub mod Loading
pub mod Apart
pub mod Standing
pub mod Back
pub mod Examples
pub mod Decoded
