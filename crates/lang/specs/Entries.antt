-- The table of 257 places (R277): at a character's code its entry, at 256 the left boundary's, -1 where there is none. TFtoPL 90 has the
-- boundary at 256 too. Every start of a chain is read from it (R278).
use Rattle.std.specs.Prelude.{List, ℕ, zero, suc, ◌/◌, ℤ, negsuc, length, set, replicate}
use Rattle.words.specs.Words.{word_of}
use Rattle.lang.specs.Checks.{char_at, entry_at}

-- the first n entries, each at its character
unfoldable pub entered : List ℤ → ℕ → List ℤ
entered es zero = replicate 257 (negsuc 0)
entered es (suc n) = set (entered es n) (word_of (char_at es n)) (entry_at es n)

-- all of them, and the left boundary's
unfoldable pub entries_table : List ℤ → ℤ → List ℤ
entries_table es left = set (entered es (length es / 2)) 256 left
