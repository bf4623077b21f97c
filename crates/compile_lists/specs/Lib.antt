-- What the stages of compiling together are held to.
--   Builds  THE contract of `write_lists`
pub mod Builds
