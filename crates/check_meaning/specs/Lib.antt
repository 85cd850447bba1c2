-- What is answered of three texts.
pub mod Answer
pub mod Listed
