-- What a happening means: the state and its numbers, truth, reading and writing, the steps.
pub mod State
pub mod Truths
pub mod Writes
pub mod Happening
