-- The laws of step_items.
--   Laws  what an item and an op give, by the tests of the code
pub mod Laws
