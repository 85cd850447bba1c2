-- What the contracts name, module by module.
pub mod Read
pub mod Tables
pub mod Due
pub mod Lists
pub mod Terms
pub mod Indexes
pub mod Conditions
pub mod Effects
pub mod Actions
pub mod Domain
pub mod Problem
pub mod First
