-- Which instruction altered a word, to be read in this order:
--   Removed  a font with one instruction taken out of every chain
--   Items    the items of a word as one list, and two of them beside each other
--   Search   the plain search, its refusals, and THE contract of `blamed_instruction`
--   Purpose  what each answer means, and that a run has room for its items: three theorems
pub mod Removed
pub mod Items
pub mod Search
pub mod Purpose
