-- Theorems: what specs/Purpose states.
pub mod Theorems
