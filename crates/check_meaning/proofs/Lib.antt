-- Worked examples: the cases of RULES 14 but K9, and texts that are refused.
pub mod Starred
pub mod Refusals
