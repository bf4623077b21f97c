-- The laws of what is put.
--   Wholes  bytes one after the other: a byte repeated, and a whole number
pub mod Wholes
