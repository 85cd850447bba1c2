-- What the laws say.
pub mod Lowest
pub mod Alike
pub mod Listed
