-- What the crates above use: a plan's lines and its run are the same over prepared actions.
pub mod Rules
pub mod Reading
