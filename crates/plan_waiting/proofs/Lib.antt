-- Laws of the points that wait, for this crate's functions and the crates above.
pub mod Soundness
pub mod Fitting
pub mod Points
pub mod Places
pub mod LentPlaces
pub mod Moving
pub mod Sifting
pub mod Keeping
pub mod Entering
