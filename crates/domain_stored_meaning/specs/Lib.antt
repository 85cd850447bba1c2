-- How trees lie in the code, and how they are read back.
pub mod Entries
pub mod Cells
pub mod Decode
pub mod Good
