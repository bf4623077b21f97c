-- A set of characters as 256 bits, to be read in this order: LetterSets (the contracts of crate letter_set), Purpose (what is proved of
-- them).
pub mod LetterSets
pub mod Purpose
