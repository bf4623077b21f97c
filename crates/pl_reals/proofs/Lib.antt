-- The laws of reals that are read.
--   RealLaws   signs, digits and decimals
pub mod RealLaws
