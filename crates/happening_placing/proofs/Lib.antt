-- Laws.
pub mod Placing
