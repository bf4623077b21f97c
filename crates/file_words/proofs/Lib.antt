-- Laws of crate file_words: Sections (a part with words in front), Bytes (the four bytes of a word).
pub mod Sections
pub mod Bytes
