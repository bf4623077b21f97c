-- What compiling is held to. In the order in which to read:
--   Fonts     a font, the pairs that have a rule, and THE rules that the one-by-one reading of crate `reading` goes by
--   Numbers   the pair table, the ops and the loop list as numbers
--   Compiled  THE contract of `compile`: refusals, answer, and the content of every list
--   Sizes     a font at another design size has the same loops, and 12 to 15
pub mod Fonts
pub mod Numbers
pub mod Compiled
pub mod Sizes
