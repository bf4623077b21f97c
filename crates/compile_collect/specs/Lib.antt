-- What the first half of compiling's first stage is held to, over the definitions of crate `compiling`.
--   Collecting  THE contract of `collect`: the refusals 1 and 12, and what the work buffer holds
pub mod Collecting
