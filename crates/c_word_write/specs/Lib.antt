-- Crate c_word_write is held to one file, NextLists.
pub mod NextLists
