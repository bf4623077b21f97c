-- The laws of the call that writes a property list.
--   Telling  the lower of two numbers, and the text and its length by it
pub mod Telling
