-- The laws of letters given as they stand.
--   Theorems   they are steps, as specs/Purpose states
--   Laws       a loop over them, letter by letter, and where a pair stops it
pub mod Theorems
pub mod Laws
