-- Laws of points in order, for this crate's functions and the crates above.
pub mod Shifting
pub mod Ordering
pub mod Ways
pub mod Mapping
