-- Laws of lists of numbers for a host.
--   Writing   values at the front of a list of zeros
--   ReadBack  a state's numbers, read back
pub mod Writing
pub mod ReadBack
