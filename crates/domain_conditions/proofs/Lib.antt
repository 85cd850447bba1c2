-- The laws of the crate `domain_conditions`.
pub mod Beginning
pub mod Facts
pub mod Comparing
pub mod Equals
pub mod Places
pub mod Whole
pub mod Listing
