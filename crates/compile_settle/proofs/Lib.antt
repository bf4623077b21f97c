-- The laws of `settle`.
--   KernSearch    the search from a row with a kern
--   SettledFonts  the rows of a font, once they are settled, and the reply
pub mod KernSearch
pub mod SettledFonts
