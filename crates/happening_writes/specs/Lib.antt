-- What the contracts name.
pub mod Rows
pub mod Asking
pub mod Left
pub mod Changing
pub mod Masks
