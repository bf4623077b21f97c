-- What the third stage of compiling is held to, over the definitions of crate `compiling`.
--   FindsLoops  THE contract of `find_loops`
pub mod FindsLoops
