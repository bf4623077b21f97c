-- The laws of the quick path.
--   Theorems   it gives what the step gives, as specs/Purpose states
--   Laws       the tests of the code
pub mod Theorems
pub mod Laws
