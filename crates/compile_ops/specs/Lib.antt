-- What the fifth stage of compiling is held to, over the definitions of crate `compiling`.
--   WritesOps  THE contract of `write_ops`
pub mod WritesOps
