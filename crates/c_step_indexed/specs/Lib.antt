-- One step by an index for a host in C, to be read in this order: Indexed (the contract of ligkern_step_indexed), Purpose (on the index of
-- a table it is ligkern_step).
pub mod Indexed
pub mod Purpose
