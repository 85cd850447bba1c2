-- How effects begin.
pub mod Leads
