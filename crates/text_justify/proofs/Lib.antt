-- The laws of fields that are written.
--   Fill  blanks, and numbers spelled over them, one after the other
--   Fit   fields for which there is room, and fields that are not taken
pub mod Fill
pub mod Fit
