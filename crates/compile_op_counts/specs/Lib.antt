-- What the fourth stage of compiling is held to, over the definitions of crate `compiling`.
--   Counting  THE contract of `count`: the refusals 13 to 15, and what the work buffer holds
pub mod Counting
