-- The laws of lines that are written.
--   Bytes  lines as bytes: one after the other, and how many
--   Steps  lines and runs of lines, each written after the one before it
--   Taken  lines for which there is room, and lines that are not taken
pub mod Bytes
pub mod Steps
pub mod Taken
