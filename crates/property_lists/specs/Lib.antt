-- The LIGTABLE property list as text, to be read in this order:
--   Reals        the number of a real's digits
--   RealTexts    the digits of a kern
--   RealPurpose  what is proved of both
--   Putting      text put into a list, and counted
--   Displays     a font as a property list: THE contract of `display`
--   Chars        characters, blanks, names and comments
--   Values       bytes and reals as they are read
--   Properties   one property
--   Indents      indentation
--   ListReading  a text read: the contract of from_pl_source_code
pub mod Reals
pub mod RealTexts
pub mod RealPurpose
pub mod Putting
pub mod Displays
pub mod Chars
pub mod Values
pub mod Properties
pub mod Indents
pub mod ListReading
