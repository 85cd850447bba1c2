-- Laws that the proofs use.
pub mod Bodied
pub mod Timing
pub mod Opening
pub mod Parted
pub mod Headed
pub mod Listed
pub mod Fielded
pub mod Natural
