-- The laws: a byte more, a piece more, and the whole; what a run too long for any word is; and what is held is read as the whole text is. Last,
-- worked examples.
pub mod Storing
pub mod Pieces
pub mod Runs
pub mod Reading
pub mod Examples
