-- A length that is counted no further than one past the limit of a reply (R204), so that no sum wraps whatever is lent; and the bytes of
-- the pair table.
use Rattle.std.specs.Prelude.{cond, List, ℕ, ℤ, ltb}
use Rattle.captions.specs.Tables.{pair_count}
use Rattle.columns.specs.Replying.{table_lines, bytes_of}

-- the smaller of a number and 65,537
abbrev pub capped_size : ℕ → ℕ
capped_size n = cond (ltb n 65537) n 65537

-- P and O, all of them
abbrev pub table_bytes : List ℤ → List ℤ → List ℕ
table_bytes pairs ops = bytes_of (table_lines pairs ops (pair_count pairs))
