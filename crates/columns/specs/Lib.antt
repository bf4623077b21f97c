-- The column text. In the order in which to read:
--   Numbers   a number in a field of 12 columns (R186, R187), read and written
--   Lines     a text as lines, and a line as a letter and numbers (R185)
--   Texts     a text as a font and a word (R188 to R199), or unreadable (16)
--   Scanned   what reading a field and a text answers: the contracts of read_field and read_text
--   Replying  the reply as lines and as bytes (R205 to R210): the contract of write_reply
--   Ligcols   THE contract of ligcols (R200 to R212): every text and its reply
--   Example   the text examples/ordinary.txt (R275)
--   Purpose   what is proved of fields, lines and texts
--   ReplyRead a reply read back, and what is proved of every text that is answered
--   Converting     THE contract of ligcols_convert (R464 to R466): a text written anew without kern values
--   SharedPurpose  what is proved of kern values shared (R463), and of texts that are written anew (R467)
pub mod Numbers
pub mod Lines
pub mod Texts
pub mod Scanned
pub mod Replying
pub mod Ligcols
pub mod Example
pub mod Purpose
pub mod ReplyRead
pub mod Converting
pub mod ConvertingExample
pub mod SharedPurpose
