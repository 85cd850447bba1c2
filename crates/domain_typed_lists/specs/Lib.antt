-- What the contracts name.
pub mod Items
pub mod Outcome
