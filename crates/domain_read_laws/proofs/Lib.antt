-- What the crates above use: what a domain and a problem that were read are.
pub mod Sizes
pub mod Rows
pub mod Named
pub mod Widths
pub mod Tables
pub mod Terms
pub mod Conditions
pub mod Effects
pub mod Actions
pub mod Texts
pub mod Whole
pub mod Sums
pub mod Bases
pub mod Prepared
