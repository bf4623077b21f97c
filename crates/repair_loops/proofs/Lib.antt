-- The laws of loop warnings.
--   Laws  the warnings of pairs that are listed one after the other
pub mod Laws
