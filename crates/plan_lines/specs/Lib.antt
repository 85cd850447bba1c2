-- What the contracts name.
pub mod Knowing
pub mod Reading
pub mod Steps
