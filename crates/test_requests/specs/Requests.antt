-- The lists among the numbers of a request, and the font at their end: instructions, kerns and entries, each a length and so many
-- items, then the boundary character and the left-boundary entry.
use Rattle.std.specs.Prelude.{ℕ, zero, suc, ◌+◌, ◌-◌, ◌*◌, cond, List, [], length, ℤ, pos, nat_le, nat_lt, slice_index_or, slice_range, slice_set}
use Rattle.words.specs.Words.{word_of}

-- the numbers from place a to place e, where they stand so
unfoldable pub part_of : List ℤ → ℕ → ℕ → List ℤ
part_of s a e = cond (nat_lt e a) [] (cond (nat_lt (length s) e) [] (slice_range s a e))

-- the number at place i; 0 past the last
abbrev pub number_at : List ℤ → ℕ → ℤ
number_at s i = slice_index_or s i (pos 0)

-- the place after the list whose length stands at place i, each item w numbers; where it does not fit, the end
unfoldable pub after_of : ℕ → List ℤ → ℕ → ℕ
after_of w s i =
    let size = w * word_of (number_at s i) in
    cond (nat_le (length s) i) (length s) (cond (nat_lt (length s - i - 1) size) (length s) (i + 1 + size))

-- its items
unfoldable pub items_of : ℕ → List ℤ → ℕ → List ℤ
items_of w s i = cond (nat_le (length s) i) [] (part_of s (i + 1) (after_of w s i))

-- the marks after the first k numbers of a list: at each of them a 1
unfoldable pub marked : ℕ → List ℤ → List ℕ → List ℕ
marked zero s m = m
marked (suc k) s m = slice_set (marked k s m) (word_of (number_at s k)) 1

-- where the length of the kerns of a font stands
abbrev pub kerns_at : List ℤ → ℕ
kerns_at font = after_of 4 font 0

-- where the length of its entries stands
abbrev pub entries_at : List ℤ → ℕ
entries_at font = after_of 1 font (kerns_at font)
