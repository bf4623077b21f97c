-- The caption chip, to be read in this order:
--   Blocks    the block of 16 bytes: what is read of it, and what it shows
--   Commands  the chip after each command, its refusals, and THE contract of `command`
--   Callers   calls by several callers: what is read off those that are taken
--   Purpose   the items that are taken are those of the words that were ended; a caller's count is its own words
pub mod Blocks
pub mod Commands
pub mod Callers
pub mod Purpose
