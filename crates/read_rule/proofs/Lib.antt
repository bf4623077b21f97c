-- The laws of the rule of a pair.
--   Laws  entries, kerns, operations and the rule by them
pub mod Laws
