-- What the contracts name.
pub mod Onwards
pub mod Beginning
