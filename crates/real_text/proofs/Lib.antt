-- The laws of a kern's text.
--   Magnitudes  its parts, one after the other
--   Fractions   the loop over decimals, and their digits
pub mod Magnitudes
pub mod Fractions
