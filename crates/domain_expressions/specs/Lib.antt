-- How expressions begin, what cells they are, and what their readers answer.
pub mod Codes
pub mod Begins
