-- Tests: two numbers compared. Bits: a number and its 32 bits. Casts: the steps of word_of and number_of. Lists: lists that are written from the front.
pub mod Bits
pub mod Casts
pub mod Lists
pub mod Tests
