-- What the contracts name, module by module.
pub mod Runs
pub mod Numbers
pub mod Classes
pub mod Tokens
pub mod Figures
pub mod Signs
