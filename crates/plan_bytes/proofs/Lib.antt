-- Laws that the proofs cite.
pub mod Ends
pub mod Machine
pub mod Taking
