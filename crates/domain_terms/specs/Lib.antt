-- What the contracts name, module by module.
pub mod Scoped
pub mod Cells
pub mod Raw
