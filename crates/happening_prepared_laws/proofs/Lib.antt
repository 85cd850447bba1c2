-- What the crates above use: prepared actions mean what the actions mean.
pub mod Conditions
pub mod Effects
pub mod Points
pub mod Happening
