-- A font file checked, to be read in this order:
--   Checked   what it answers, and THE contract of checking a file
--   Purpose   'no loop' means that no pair never ends, and each pair that is named never ends: two theorems
pub mod Checked
pub mod Purpose
