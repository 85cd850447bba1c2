-- What the laws name: where the facts and numbers of prepared actions lie.
pub mod Summed
