-- How conditions begin, and how they end.
pub mod Begins
pub mod Closed
