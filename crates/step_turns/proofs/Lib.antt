-- The laws of step_turns.
--   Laws     what a turn gives, by the tests of the code
--   Turning  the loop: a turn that goes on has fewer turns before it
pub mod Laws
pub mod Turning
