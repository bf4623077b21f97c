-- The laws of the stage. Those of its passes stand in crate `compiling`.
--   Preparing  the rows of a font, collected and encoded, or the number of a refusal
pub mod Preparing
