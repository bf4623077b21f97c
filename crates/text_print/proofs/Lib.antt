-- What is printed.
--   Laws      from what `ligcols` answered to what is printed
--   Theorems  the statements of specs/Printing
pub mod Laws
pub mod Theorems
