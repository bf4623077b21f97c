-- The laws of what stands in local lists, and is written from there.
--   Copying  a list that is copied to the front of another, and what is written by the number
--   Left     what the passes of repair leave in local lists
pub mod Copying
pub mod Left
