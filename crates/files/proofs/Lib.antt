-- Laws of a written font file, and three theorems:
--   Parts      a piece that stands in a list, and the bytes of n words
--   Joined     the pieces of a written file
--   Laid       what stands in it, by the words of its sections, and its lengths
--   Lengths    what 17 tests
--   Shared     a program whose kerns are shared
--   Kerns      kerns are read again
--   Program    instructions are read again
--   Packed     a packed program, in front, its own instructions and at the end
--   Own        a font's own instructions can be read again
--   Edges      the boundary character and the left entry are read again
--   Entries    the table of entries
--   Chars      entries are read again from the characters' words
--   Listed     each entry of the table is listed
--   Unflagged  a program with the flags of its redirects off
--   Taken      what is known of a font that is written
--   Font       the same of its packed font
--   Table      the same of its table of packed entries
--   Theorems   `rest-kept`, `read-after-write` and `entries-lead`
pub mod Parts
pub mod Joined
pub mod Laid
pub mod Lengths
pub mod Shared
pub mod Kerns
pub mod Program
pub mod Packed
pub mod Own
pub mod Edges
pub mod Entries
pub mod Chars
pub mod Listed
pub mod Unflagged
pub mod Taken
pub mod Font
pub mod Table
pub mod Theorems
