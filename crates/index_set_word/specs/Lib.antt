-- A word set whole by an index, to be read in this order: Whole (the contract of set_word_indexed), Purpose (on the index of a table it
-- is set_word).
pub mod Whole
pub mod Purpose
