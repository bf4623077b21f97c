-- TeX's main loop on a font that writing takes, to be read in this order:
--   Purpose   TeX loads the file, and sets words by the font's own rules: a theorem
--   Example   a small font of which it speaks
pub mod Purpose
pub mod Example
