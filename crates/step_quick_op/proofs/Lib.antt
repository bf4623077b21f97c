-- The laws of step_quick_op.
--   Laws   the tests of the code
pub mod Laws
