-- Room for the lists of a font.
--   Rooms  a list of zeros of some length
pub mod Rooms
