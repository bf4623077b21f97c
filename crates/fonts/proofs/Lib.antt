-- What is proved of a font's definitions.
--   FontLaws  a font's pairs are all that have a rule
--   Lent      a font as it was lent
--   Replies   an answer is known from its reply
--   Theorems  the table is the reading; a loop is reported exactly when a pair never ends; the loops, and 12 to 15, are the same at every design size
pub mod FontLaws
pub mod Lent
pub mod Replies
pub mod Theorems
