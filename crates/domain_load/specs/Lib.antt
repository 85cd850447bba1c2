-- What load gives, and how it is read back.
pub mod Load
pub mod Decode
