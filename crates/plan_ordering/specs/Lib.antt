-- What the contracts name.
pub mod Order
pub mod Keys
