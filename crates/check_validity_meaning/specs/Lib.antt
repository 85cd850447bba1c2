-- When a plan is valid, apart from how that is computed.
pub mod Lists
pub mod Values
pub mod Satisfied
pub mod Reads
pub mod Happens
pub mod Failing
pub mod Valid
