-- The font that a file means, to be read in this order:
--   Meant     the font, and THE contract of reading it
--   Purpose   its entries lead to instructions, and compiling refuses it with none of 1 to 5: two theorems
pub mod Meant
pub mod Purpose
