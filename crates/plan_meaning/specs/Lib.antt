-- What a plan means (Plan, Text, Lines, Promised), the machine that is fed it (Machine, Feed), how steps lie in numbers (Stored), and the table of refusals
-- (Listed).
pub mod Lists
pub mod Plan
pub mod Machine
pub mod Text
pub mod Feed
pub mod Promised
pub mod Lines
pub mod Stored
pub mod Listed
