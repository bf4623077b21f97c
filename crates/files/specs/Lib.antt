-- A font file, to be read in this order:
--   Lengths   the twelve lengths, where the sections start, and 17
--   Commands  a word of the lig/kern section, a kern, a character's word
--   Reading   the font that a file holds, and THE contract of reading it
--   Sections  the bytes of what is written
--   Writing   a file with another program in its middle, and THE contract of writing it
--   Purpose   what is read after writing, what stays of the old file, where entries lead: three theorems
pub mod Lengths
pub mod Commands
pub mod Reading
pub mod Sections
pub mod Writing
pub mod Purpose
