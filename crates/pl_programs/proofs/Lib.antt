-- That what is read is a program.
--   Given     what holds of every property that is read
--   Sound     what holds of all that is read
--   Theorems  proves what specs/Purpose states
pub mod Given
pub mod Sound
pub mod Theorems
