-- What the contracts name, module by module.
pub mod Held
pub mod Layout
