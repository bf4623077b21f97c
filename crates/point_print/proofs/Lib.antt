-- The laws of bytes put into a list, and of the loop over decimals.
--   Putting  bytes put one after the other
--   Turns    what holds at each turn of put_decimals
--   Whole    the list that comes back
pub mod Putting
pub mod Turns
pub mod Whole
