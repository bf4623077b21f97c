-- Stepping: a step by an index from the state that stands in a list. Theorems: what specs/Purpose states.
pub mod Stepping
pub mod Theorems
