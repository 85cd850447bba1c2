-- Laws that the proofs cite.
pub mod Fuel
pub mod Instant
pub mod Judging
pub mod Laying
pub mod Poising
pub mod Rows
pub mod Slots
pub mod Underway
