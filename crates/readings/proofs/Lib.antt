-- What is proved of what stands.
--   Theorems  a step of the list is a step of what stands
pub mod Theorems
