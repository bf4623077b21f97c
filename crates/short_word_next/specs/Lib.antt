-- What crate short_word_next is held to is short_words/specs/NextWords; Placing is for the functions below next_word.
pub mod Placing
