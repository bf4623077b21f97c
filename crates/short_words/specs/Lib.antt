-- Every word of at most four letters of a set of characters, to be read in this order: ShortWords (all of them), NextWords (the contract of
-- next_word), Purpose (what is proved of both).
pub mod ShortWords
pub mod NextWords
pub mod Purpose
