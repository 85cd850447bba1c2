-- Laws that the crates above use; and worked examples: the bench, and corners beside it.
pub mod Failing
pub mod Examples
pub mod Corners
pub mod Keeping
