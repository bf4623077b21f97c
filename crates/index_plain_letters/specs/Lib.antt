-- Letters given by an index: IndexedLetters.
pub mod IndexedLetters
