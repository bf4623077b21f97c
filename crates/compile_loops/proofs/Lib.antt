-- The law of `find_loops`.
--   WalkedFonts  the rows of a font, once its loops are listed, and the reply
pub mod WalkedFonts
