-- What the contracts name, module by module.
pub mod Titles
pub mod Acted
