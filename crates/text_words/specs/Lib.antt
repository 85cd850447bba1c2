-- What the contracts name, module by module.
pub mod Bytes
pub mod Spelling
pub mod Fixed
pub mod Names
pub mod NameEnds
