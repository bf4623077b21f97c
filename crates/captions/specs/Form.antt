-- The form of a pair table (R256 to R262). Begin checks all of it (R263).
use Rattle.std.specs.Prelude.{Bool, true, List, ℕ, zero, suc, ◌+◌, ◌%◌, ℤ, ltb, leb, eqb, length}
use Rattle.words.specs.Words.{word_of}
use Rattle.lang.specs.Every.{both, every}
use Rattle.lang.specs.Records.{within, absent_or}
use Rattle.lang.specs.Checks.{unless}
use Rattle.reading.specs.Form.{formed}
use Rattle.fonts.specs.Fonts.{left_of}
use Rattle.captions.specs.Tables.{pair_count, op_count, number, left_place, key_at, first_op, count_of, entry_of_pair, op_fits, record_fits}

-- where the ops of the first k pairs end, which is where those of the next begin (R259)
abbrev pub ops_end : List ℤ → ℕ → ℕ
ops_end pairs zero = 0
ops_end pairs (suc k) = first_op pairs k + count_of pairs k

-- pair k comes after the pair before it (R258)
abbrev pub comes_after : List ℤ → ℕ → Bool
comes_after pairs zero = true
comes_after pairs (suc k) = ltb (key_at pairs k) (key_at pairs (suc k))

-- left and right in range (R257), and in ascending order (R258)
abbrev pub key_form : List ℤ → ℕ → Bool
key_form pairs k = both (absent_or 255 (number pairs k 0)) (both (within 255 (number pairs k 1)) (comes_after pairs k))

-- its ops follow those of the pair before it (R259), and they and its last are such as a pair's reading gives (R260 to R262)
abbrev pub pair_form : List ℤ → List ℤ → ℕ → Bool
pair_form pairs ops k =
    both (key_form pairs k)
    (both (record_fits pairs ops k)
    (both (eqb (first_op pairs k) (ops_end pairs k))
    (formed (left_of (left_place (number pairs k 0))) (word_of (number pairs k 1)) (entry_of_pair pairs ops k))))

-- whole pairs, whole ops, and no more ops than an i32 counts (R256)
abbrev pub sizes_form : List ℤ → List ℤ → Bool
sizes_form pairs ops = both (eqb (length pairs % 6) 0) (both (eqb (length ops % 2) 0) (leb (op_count ops) 2147483647))

-- the whole form: the sizes, every op, every pair, and no op is left over (R259)
abbrev pub table_form : List ℤ → List ℤ → Bool
table_form pairs ops =
    both (sizes_form pairs ops)
    (both (every (op_count ops) (op_fits ops))
    (both (every (pair_count pairs) (pair_form pairs ops))
    (eqb (ops_end pairs (pair_count pairs)) (op_count ops))))

-- 7 (R236): a table not of the form
abbrev pub table_refusal : List ℤ → List ℤ → ℕ
table_refusal pairs ops = unless 7 (table_form pairs ops)
