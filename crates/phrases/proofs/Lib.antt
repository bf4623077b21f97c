-- The laws of text put into a list.
--   Putting  texts put one after the other
pub mod Putting
