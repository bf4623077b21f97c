-- What the second stage of compiling is held to, over the definitions of crate `compiling`.
--   Settles  THE contract of `settle`
pub mod Settles
