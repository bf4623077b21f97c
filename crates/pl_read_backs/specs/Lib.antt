-- What is proved of writing and reading a property list.
--   Purpose  what is written is read back as the font, and what is read is written
pub mod Purpose
