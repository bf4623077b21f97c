-- The laws of `count`.
--   Totals        the ops of one row and of all, and sums that are capped
--   KernRows      how many ops a row with a kern has
--   CountedFonts  the rows of a font, once their ops are counted
pub mod Totals
pub mod KernRows
pub mod CountedFonts
