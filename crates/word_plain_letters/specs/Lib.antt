-- Letters given as they stand, to be read in this order: PlainLetters (how many they are, the state after them, and their items),
-- Purpose (that they are the steps of the run).
pub mod PlainLetters
pub mod Purpose
