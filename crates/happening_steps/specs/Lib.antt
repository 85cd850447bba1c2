-- What the contracts name.
pub mod Watching
pub mod Instants
