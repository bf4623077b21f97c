-- What is proved for reading a text. In the order in which each rests on those before it:
--   Feeds      a field holds no line feed; the first line of a text
--   Following  a line read, added to what was read before it; and where no line is read
--   Telling    what is answered for a line
--   Adding     a line of so many numbers, or of one that comes once, added to what was read
--   Letters    the same by the letter: I, K, E, R, L, and any other
--   Opening    D
--   WordLine   W, up to the end of the text
--   Ending     the end of a text, with a word and without one
--   Clearing   lists of zeros
pub mod Feeds
pub mod Following
pub mod Telling
pub mod Adding
pub mod Letters
pub mod Opening
pub mod WordLine
pub mod Ending
pub mod Clearing
