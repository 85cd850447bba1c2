-- What the arguments mean.
pub mod Arguments
