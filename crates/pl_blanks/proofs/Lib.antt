-- The laws of scanners over a text and a place.
--   Places    the byte at a place, and what follows a part that is passed
--   Passing   blanks, everything up to a parenthesis
pub mod Places
pub mod Passing
