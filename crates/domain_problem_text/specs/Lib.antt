-- What the contracts name, module by module.
pub mod Grounded
pub mod Parts
pub mod Posed
