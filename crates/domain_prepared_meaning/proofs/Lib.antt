-- Laws and worked examples.
pub mod Index
pub mod Declared
pub mod Forms
pub mod Tests
pub mod Effects
pub mod Places
pub mod Actions
