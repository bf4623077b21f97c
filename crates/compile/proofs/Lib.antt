-- The law of `compile`.
--   Whole  a font that is refused by 1 to 5, and one that is not
pub mod Whole
