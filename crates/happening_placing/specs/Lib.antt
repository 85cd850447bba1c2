-- What the contracts name.
pub mod Given
