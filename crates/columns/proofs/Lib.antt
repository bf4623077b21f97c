-- What is proved of the column text. Theorems (specs/Purpose), Answered (specs/ReplyRead), SharedTexts, ConvertedTexts and LinesKept (specs/SharedPurpose)
-- state it; the other files prove it:
--   Example  the example of R275, computed
--   Options  what is known where a test, or one of two readings, gives something
--   Digits   digits that are read, written again
--   Fields   a field, and the fields of a line
--   ReadBack  what is written is read
--   FontBegins  a font that compiling accepts: demand 3 holds of its lists, and begin is not refused
--   LinesBack  lines that are written are read back; a text of lines ends in a line feed
--   TextLaws  what is known of a text that is read
--   Saying  a text that was read, from what was answered and left in the lists
--   WordRead  the meter of loops, and the items of a word
--   Fitting  lists of i32
--   Reported  a reply, read back, gives the lists that it was written from
--   KernFits, FontFits, ItemFits  every number of a reply is an i32: kerns, tables, items
--   RefusalNumbers  the numbers that refuse a text
--   ConvertedLengths  how long a text is that is written anew
--   SharedPrograms  a program whose kern values are shared: its rules are those that it had
--   SharedTexts  kern values shared alter nothing, and none is left (specs/SharedPurpose)
--   SharedTwice  sharing twice is sharing once; every number that is shared is an i32
--   ConvertedLines  lines that are written anew, read again and written anew again
--   ConvertedTexts  a text that is written anew is read as it was, and written anew again it stays (specs/SharedPurpose)
--   LinesKept  the I lines of a text that is written anew stand as they stood, but for kind and operand where a value is held (specs/SharedPurpose)
pub mod Example
pub mod Options
pub mod Digits
pub mod Fields
pub mod ReadBack
pub mod FontBegins
pub mod LinesBack
pub mod TextLaws
pub mod Saying
pub mod WordRead
pub mod Fitting
pub mod Reported
pub mod KernFits
pub mod FontFits
pub mod ItemFits
pub mod RefusalNumbers
pub mod SharedPrograms
pub mod SharedTexts
pub mod Answered
pub mod Theorems
pub mod ConvertingExample
pub mod SharedTwice
pub mod ConvertedLines
pub mod ConvertedTexts
pub mod LinesKept
pub mod ConvertedLengths
