-- Laws of checks, for this crate's functions and the crates above.
pub mod Formed
pub mod TableRows
pub mod Padding
pub mod Written
pub mod Shown
pub mod Refusals
pub mod Storing
pub mod Longer
pub mod Calling
pub mod Results
pub mod Loading
