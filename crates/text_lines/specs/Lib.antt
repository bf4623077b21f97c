-- What the functions that write lines are held to.
--   Writing  lines of so many numbers each, bytes that are written at a place, and when there is room for them
pub mod Writing
