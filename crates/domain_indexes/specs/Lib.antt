-- What the contracts name, module by module.
pub mod Firsts
