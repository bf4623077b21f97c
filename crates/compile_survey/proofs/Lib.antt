-- The laws of `survey`.
--   Bits     a bit set, the lowest bit that is set, and that bit taken away
--   Tables   an instruction noted in the three tables
pub mod Bits
pub mod Tables
