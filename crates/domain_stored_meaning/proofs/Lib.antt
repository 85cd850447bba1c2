-- What the crates above use: trees that stand in the code are read back, and so are tables in their rows.
pub mod Back
pub mod Standing
pub mod Numbers
pub mod Expressions
pub mod Conditions
pub mod Effects
pub mod Actions
pub mod Numbered
