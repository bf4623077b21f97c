-- Laws of the calls for a host in C.
--   Begin     a fresh run
--   SetWhole  a word set whole
--   Theorems  what specs/Purpose states
pub mod Begin
pub mod SetWhole
pub mod Theorems
