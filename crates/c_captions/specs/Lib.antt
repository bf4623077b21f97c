-- What the calls for a host in C are held to, in the order in which to read it:
--   Begin    the contract of ligkern_begin
--   Whole    the contract of ligkern_set_word
--   Purpose  what a host sees through the lists is what demand 3 speaks of
pub mod Begin
pub mod Whole
pub mod Purpose
