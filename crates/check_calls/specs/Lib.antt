-- What the calls do.
pub mod Adding
pub mod Calls
pub mod Numbers
