-- Laws that the proofs cite.
pub mod Taking
pub mod Answering
pub mod Keeping
pub mod Ending
pub mod Alike
