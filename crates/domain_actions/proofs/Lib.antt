-- Laws that the proofs use.
pub mod Owning
pub mod Heading
pub mod Resting
pub mod Titling
pub mod Gathering
