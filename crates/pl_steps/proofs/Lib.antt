-- The laws of a property that is read.
--   ReadLaws   the contract of functions that read a property
pub mod ReadLaws
