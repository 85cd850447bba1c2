-- What the proofs of several functions use, here and in the crates above; and worked examples.
pub mod Begun
pub mod Figures
pub mod PlanTokens
pub mod Standing
pub mod Starts
pub mod Steps
pub mod Valued
pub mod Values
pub mod Ways
pub mod Within
pub mod Examples
pub mod Words
