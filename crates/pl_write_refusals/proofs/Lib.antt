-- The laws of what is written as a property list.
--   Shown  the tests, by the 32 bits
pub mod Shown
