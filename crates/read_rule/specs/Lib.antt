-- The rule of a pair as it is answered.
--   Meant  the rule of crate `reading` that an answer means
pub mod Meant
