-- What the first stage of compiling is held to, over the definitions of crate `compiling`.
--   Prepares  THE contract: the refusals 1 and 12, whether every kern scales, and what the work buffer holds
pub mod Prepares
