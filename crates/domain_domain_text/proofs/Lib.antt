-- Laws that the proofs use.
pub mod Ways
