-- The state of a run in a list of numbers: States.
pub mod States
