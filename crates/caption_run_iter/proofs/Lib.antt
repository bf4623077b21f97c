-- The laws of caption_run_iter.
--   Theorems  any number of calls of next, and demand 3 of the reader: the statements are specs/Reader
pub mod Theorems
