-- A font as it was before packing, to be read in this order:
--   Unpackings  the font, and THE contract of taking packing back
--   Purpose     its rules are those of the packed font: two theorems
pub mod Unpackings
pub mod Purpose
