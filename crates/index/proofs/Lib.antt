-- The laws of an index.
--   Looking   a pair looked up: by the tests of the code
--   Tests     how many numbers below n pass a test, and whether one does
--   Bits      a number whose bits are tests: one bit, its low bits, its ones
--   Places    on an ascending table: which keys come before a pair's, and where the pairs of a left begin
--   Theorems  proves what specs/Purpose states
pub mod Looking
pub mod Tests
pub mod Bits
pub mod Places
pub mod Theorems
