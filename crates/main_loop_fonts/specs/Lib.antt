-- TeX's main loop on a font file, to be read in this order:
--   Search    what TeX 1039 finds in the bytes of a file, and what TeX checks when it loads one
--   Example   a small file that TeX loads, and words set with it
--   Purpose   that is the rule of the font that the file means: a law; and the loop does what the reading says: a theorem
pub mod Search
pub mod Example
pub mod Purpose
