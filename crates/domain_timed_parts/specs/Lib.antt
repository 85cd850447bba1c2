-- What the contracts name, module by module.
pub mod Bodies
pub mod Times
pub mod Fields
