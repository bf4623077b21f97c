-- What is proved of removals:
--   Lessening  a run gives at most as many items as `mostItems` says
--   SameItems  when two lists of items are the same
--   Passing    the rules of a font without an instruction
--   Theorems   what the answers mean (specs/Purpose)
pub mod Lessening
pub mod SameItems
pub mod Passing
pub mod Theorems
