-- The laws of text put into a list from a place on.
--   Decimals  the digits of a number, from the last one on
--   Codes     a character as itself, or its code
pub mod Decimals
pub mod Codes
