-- What is known of every reader: what it gives and refuses, step by step, and what holds of the tables that are read. Worked examples, each by
-- computation: the bench, texts that are accepted, texts that are refused.
pub mod Readings
pub mod Given
pub mod Steps
pub mod Tables
pub mod Headings
pub mod Bench
pub mod Accepted
pub mod Refused
