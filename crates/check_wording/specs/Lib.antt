-- The line written.
pub mod Wording
