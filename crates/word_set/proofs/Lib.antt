-- The laws of a word set whole.
--   Bounds      whatever the table and the state, the numbers of a step's answer are small
--   Standing    the items up to the end by any step, one after the other, and the list that they are written to
--   ItemsGiven  items that steps gave one after the other are such items
--   Laws        the steps of a run, and the contract of set_word
--   Few         its number is at most 15, and it has six numbers an item
--   Theorems    what is set is what demand 3 promises: specs/Purpose
--   Letters     no letter of the word is lost: specs/Purpose
pub mod Bounds
pub mod Standing
pub mod ItemsGiven
pub mod Laws
pub mod Few
pub mod Theorems
pub mod Letters
