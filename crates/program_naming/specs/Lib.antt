-- What is said of an index.
pub mod Grounds
