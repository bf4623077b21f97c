-- A word set whole by an index over a table that was checked once, to be read in this order: Checked (the contract of
-- set_checked_word_indexed), Purpose (on a table that the check takes it is set_word_indexed, and on its index set_word).
pub mod Checked
pub mod Purpose
