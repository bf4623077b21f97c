-- What the functions that print a scaled number are held to.
--   Putting  bytes put into a list from a place on
pub mod Putting
