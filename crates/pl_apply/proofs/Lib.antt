-- The laws of a property applied.
--   Laws      what a function lets through, and the lent list
--   Applying  each property
pub mod Laws
pub mod Applying
