-- The laws of one line.
--   Lines  the parts of a line, one after the other
pub mod Lines
