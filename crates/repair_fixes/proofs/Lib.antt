-- Laws over plain values:
--   Pushes  the warnings of a step, one after the other, and of the steps so far
--   Writes  the numbers of a step, one after the other, and of the steps so far
--   Whole   both passes together
pub mod Pushes
pub mod Writes
pub mod Whole
