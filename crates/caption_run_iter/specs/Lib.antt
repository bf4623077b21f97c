-- A reader that keeps its word: what a call of `next` answers and leaves, and what any number of calls answer.
pub mod Reader
