-- What the last part of asking is held to; THE contract of `ask_repair` is specs/Asking of crate `repairs`.
--   Told  what is told once the passes have answered
pub mod Told
