-- What the contracts name.
pub mod Written
