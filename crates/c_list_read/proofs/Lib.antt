-- The laws of the call that reads a property list.
--   Telling  the lower of two numbers, and the lists by it
pub mod Telling
