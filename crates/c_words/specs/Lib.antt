-- Crate c_words is held to one file, Words, and to c_values/specs/Telling.
pub mod Words
