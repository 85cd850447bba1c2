-- Where lines end in the parts of a plan.
pub mod Ends
