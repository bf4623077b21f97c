-- A word set whole over a table that was checked once, to be read in this order: Checked (the contract of set_checked_word), Purpose (on
-- a table that the check takes it is set_word).
pub mod Checked
pub mod Purpose
