-- What the contracts name.
pub mod Running
pub mod Lines
pub mod Laid
