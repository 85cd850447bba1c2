-- What the reader of init answers, and the readers of its parts.
pub mod State
pub mod Parts
