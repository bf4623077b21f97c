-- What the last part of committing is held to; THE contract of `commit_repair` is specs/Committing of crate `repairs`.
--   Finishing  what is answered once the number is known
pub mod Finishing
