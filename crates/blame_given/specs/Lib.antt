-- The font as given, and then the removals: Given (the contract of answer_given).
pub mod Given
