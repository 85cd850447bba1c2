-- What the contracts name: forms, prepared trees, how they lie in rows, and back; what is asked of trees that lie in rows.
pub mod Forms
pub mod Preparing
pub mod Rows
pub mod Decode
pub mod Good
