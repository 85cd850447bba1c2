-- The demands on the calls (Demands), and what they are said with: the calls as a caller sees them, their rules, what a plan's text says.
pub mod Calling
pub mod Ruling
pub mod Told
pub mod Demands
pub mod Ours
