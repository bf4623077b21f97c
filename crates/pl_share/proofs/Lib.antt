-- The laws of kerns shared.
--   Sharing  the refusals of both calls, and the answer
pub mod Sharing
