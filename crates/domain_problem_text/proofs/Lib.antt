-- What the proofs of the functions use.
pub mod Judging
pub mod Naming
pub mod Grounding
pub mod Starting
pub mod Aiming
pub mod Settling
pub mod Posing
