-- The laws of step_quick_find.
--   Laws   the tests of the code, and its search
pub mod Laws
