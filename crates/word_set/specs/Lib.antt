-- A word set whole, to be read in this order: Setting (the contract of set_word), Purpose (what it means for a font that compile accepts),
-- Writing (what the functions below set_word do).
pub mod Setting
pub mod Purpose
pub mod Writing
