-- The laws of a reply that is written.
--   Shapes  the lines of the reply as lines of so many numbers each, and how many bytes they have
--   Pairs   the pair table, one pair with its ops after the other
--   Counts  how many bytes a reply has, counted no further than 65,537
--   Whole   the whole reply, part after part, and what is answered by whether there is room
pub mod Shapes
pub mod Pairs
pub mod Counts
pub mod Whole
