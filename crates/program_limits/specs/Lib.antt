-- What is said of a place that is refused by 12.
pub mod Limits
