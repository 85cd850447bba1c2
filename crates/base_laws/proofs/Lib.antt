-- What the crates above use: lists, bytes stored in lists, numerals, what a test tells, and pairs.
pub mod Lists
pub mod Sets
pub mod Numerals
pub mod Splits
pub mod Pairs
