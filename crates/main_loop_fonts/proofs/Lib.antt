-- What is proved of TeX's main loop on a font file.
--   Commands  an instruction's four bytes as the lent program has it
--   Chains    the search is the chain, and what it finds is the rule
--   Starts    where a character's program starts
--   Theorems  THE law, and the theorems of a file
--   Example   a small file, computed
--   Loads     what TeX checks when it loads a file
pub mod Commands
pub mod Loads
pub mod Chains
pub mod Starts
pub mod Theorems
pub mod Example
