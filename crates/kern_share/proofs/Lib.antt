-- Laws of crate kern_share:
--   Laws      a value's place by a search, its test, the kerns gathered, and the instructions passed
--   Theorems  what specs/Purpose states
pub mod Laws
pub mod Theorems
