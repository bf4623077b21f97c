-- What is proved of a font file that was checked: Theorems, which specs/Purpose states.
pub mod Theorems
