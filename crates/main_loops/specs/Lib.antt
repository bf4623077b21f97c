-- TeX's main loop on values (R491 to R496), to be read in this order:
--   Nodes     what the loop makes, its stack and its state, with TeX's names
--   Loop      THE definitions: TeX 1034 to 1040, each label one definition
--   Words     fourteen words, and the nodes that TeX makes of them
--   Purpose   the loop does what the one-by-one reading says: a theorem
-- Left out: space factors (1034), discretionaries and hyphen_char (1035), interrupts (1040), and characters that do not exist in the font
-- (1036), since a word here has none; so false_bchar (1038) never matters.
pub mod Nodes
pub mod Loop
pub mod Words
pub mod Purpose
