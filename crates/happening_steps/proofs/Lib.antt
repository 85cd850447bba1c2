-- What the proofs of several functions use.
pub mod Spanned
pub mod Applied
pub mod Happens
pub mod Unwatched
pub mod Promised
