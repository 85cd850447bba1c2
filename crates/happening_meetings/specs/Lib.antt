-- What the contracts name.
pub mod Accesses
pub mod Marks
pub mod Taken
pub mod Points
