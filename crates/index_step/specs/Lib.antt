-- A step by an index, to be read in this order: Indexed (the contract of step_indexed), Purpose (on the index of a table it is the step).
pub mod Indexed
pub mod Purpose
