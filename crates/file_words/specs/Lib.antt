-- Definitions of crate file_words.
pub mod Fours
