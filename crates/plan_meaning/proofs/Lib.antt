-- The machine, fed in any parts, gives what the plan means as a whole; what is known of every line's step and refusal; steps in numbers and back; and worked
-- examples.
pub mod Lists
pub mod Drain
pub mod Stream
pub mod Text
pub mod Judged
pub mod Stopping
pub mod Listed
pub mod Marks
pub mod Tokens
pub mod Walk
pub mod Steps
pub mod Places
pub mod Rising
pub mod Bounds
pub mod Stored
pub mod Examples
