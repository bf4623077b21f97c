-- The laws of a decimal that is read.
--   Passing  loops that pass over the bytes of a text
--   Parts    a decimal's two parts, and the text that they are of
pub mod Passing
pub mod Parts
