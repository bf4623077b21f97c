-- Crate short_word_items is held to one file, NextItems.
pub mod NextItems
