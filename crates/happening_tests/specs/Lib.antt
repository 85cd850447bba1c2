-- What the contracts name.
pub mod Taken
pub mod Judging
pub mod Reading
