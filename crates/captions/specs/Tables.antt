-- A pair table and its ops as they are lent, whatever they hold (R77, R78, R82). Six numbers a pair (0 left, 1 right, 2 last code, 3 last
-- flag, 4 first op, 5 op count), two an op (kind and value). A pair is found by bisection (R116), in the definition too, so that what a
-- step answers is said of any table; on a table in ascending order bisection finds the pair.
use Rattle.std.specs.Prelude.{Bool, true, cond, List, [], ◌∷◌, ℕ, zero, suc, ◌+◌, ◌-◌, ◌*◌, ◌/◌, ◌%◌, ℤ, pos, ltb, leb, eqb, length, get_or}
use Rattle.std.specs.Prelude as rust
use Rattle.std.proofs.Math.Option.{Option, none, some, map}
use Rattle.words.specs.Words.{word_of}
use Rattle.lang.specs.Every.{both}
use Rattle.lang.specs.Bisection.{bisected, found_by}
use Rattle.lang.specs.Records.{within}
use Rattle.reading.specs.Items.{Left, item, plain, inserted, Out, glyph, kern}
use Rattle.reading.specs.Depth.{Res, Finished}
use Rattle.fonts.specs.Fonts.{number_of_left}

-- how many whole pairs a table holds, six numbers each
abbrev pub pair_count : List ℤ → ℕ
pair_count pairs = length pairs / 6

-- how many whole ops there are, two numbers each
abbrev pub op_count : List ℤ → ℕ
op_count ops = length ops / 2

-- number j of pair k
abbrev pub number : List ℤ → ℕ → ℕ → ℤ
number pairs k j = get_or pairs (6 * k + j) (pos 0)

-- the kind of op i: 0 a character, 1 a ligature, 2 a scaled kern; 0 past the last
abbrev pub op_kind : List ℤ → ℕ → ℤ
op_kind ops i = get_or ops (2 * i) (pos 0)

-- the value of op i: a code, or a scaled kern; 0 past the last
abbrev pub op_value : List ℤ → ℕ → ℤ
op_value ops i = get_or ops (2 * i + 1) (pos 0)

-- ---- finding a pair

-- a pair's place in the order of pairs (R80): by left, -1 first, then by right. Two pairs have one key only where they have the same left
-- and right.
abbrev pub key_by : ℕ → ℕ → ℕ
key_by left right = 4294967296 * left + right

-- the key of a left and a right character
abbrev pub key_of : Left → ℕ → ℕ
key_of l r = key_by (number_of_left l) r

-- -1 is 0, and c is 1 + c
abbrev pub left_place : ℤ → ℕ
left_place z = (word_of z + 1) % 4294967296

-- the key of pair k, by its first two numbers
abbrev pub key_at : List ℤ → ℕ → ℕ
key_at pairs k = key_by (left_place (number pairs k 0)) (word_of (number pairs k 1))

-- where the search for a key ends
abbrev pub place_for : List ℤ → ℕ → ℕ
place_for pairs wanted = bisected (key_at pairs) (pair_count pairs) wanted

-- the pair of a key
abbrev pub find : List ℤ → ℕ → Option ℕ
find pairs wanted = found_by (key_at pairs) (pair_count pairs) wanted

-- what a search answers: the place of the pair, or nothing
abbrev pub found_at : Option ℕ → rust.Option ℕ
found_at none = rust.None
found_at (some k) = rust.Some k

-- ---- what a pair becomes

-- kind 0 is a character, 1 a ligature, 2 a scaled kern (R82)
abbrev pub op_of : ℤ → ℤ → Out
op_of kind value =
    cond (eqb (word_of kind) 0) (glyph (plain (word_of value)))
    (cond (eqb (word_of kind) 1) (glyph (inserted (word_of value))) (kern value))

-- op i as an item that a reading gives
abbrev pub op_at : List ℤ → ℕ → Out
op_at ops i = op_of (op_kind ops i) (op_value ops i)

-- n ops from i on
unfoldable pub ops_from : List ℤ → ℕ → ℕ → List Out
ops_from ops i zero = []
ops_from ops i (suc n) = op_at ops i ∷ ops_from ops (suc i) n

-- number 4 of pair k, by its 32 bits: its first op
abbrev pub first_op : List ℤ → ℕ → ℕ
first_op pairs k = word_of (number pairs k 4)

-- number 5 of pair k: how many ops it has
abbrev pub count_of : List ℤ → ℕ → ℕ
count_of pairs k = word_of (number pairs k 5)

-- number 2 of pair k: the code of its last
abbrev pub last_code : List ℤ → ℕ → ℕ
last_code pairs k = word_of (number pairs k 2)

-- number 3 of pair k: 1 where its last is a ligature
abbrev pub last_flag : List ℤ → ℕ → Bool
last_flag pairs k = eqb (word_of (number pairs k 3)) 1

-- pair k as an entry: its ops, and its last with its flag
abbrev pub entry_of_pair : List ℤ → List ℤ → ℕ → Res
entry_of_pair pairs ops k =
    record { outs = ops_from ops (first_op pairs k) (count_of pairs k); last = item (last_flag pairs k) (last_code pairs k) }

-- the table as a function of a left and a right
abbrev pub entries : List ℤ → List ℤ → Finished
entries pairs ops l r = map (entry_of_pair pairs ops) (find pairs (key_of l r))

-- ---- what one pair and one op must be for a step to read them

-- kinds 0 and 1 hold a code, kind 2 any number (R257)
abbrev pub op_holds : List ℤ → ℕ → Bool
op_holds ops i = cond (within 1 (op_kind ops i)) (within 255 (op_value ops i)) (eqb (word_of (op_kind ops i)) 2)

-- op i is there, and holds what its kind must
abbrev pub op_fits : List ℤ → ℕ → Bool
op_fits ops i = both (ltb i (op_count ops)) (op_holds ops i)

-- last code and flag in range (R257), an unflagged last equal to the right (R260), and its ops among the ops
abbrev pub record_fits : List ℤ → List ℤ → ℕ → Bool
record_fits pairs ops k =
    both (within 255 (number pairs k 2))
    (both (within 1 (number pairs k 3))
    (both (cond (last_flag pairs k) true (eqb (last_code pairs k) (word_of (number pairs k 1))))
    (leb (first_op pairs k + count_of pairs k) (op_count ops))))
