-- What the proofs of several functions use.
pub mod Shapes
pub mod Expressing
pub mod Groups
pub mod Walking
pub mod Testing
pub mod Parting
pub mod Effecting
pub mod Acting
pub mod Examples
