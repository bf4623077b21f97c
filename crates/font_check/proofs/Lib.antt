-- Laws of checking a font file.
--   Stages    what was read, compiled
--   Checking  the contract of the whole
pub mod Stages
pub mod Checking
