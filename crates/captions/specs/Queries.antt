-- What else a host asks of a run, of a table or of a word (R119 to R127): after `is_separation_point`, `has_replacement`,
-- `all_pairs_with_replacements` and `CompiledProgram::is_seven_bit_safe` of ligkern/mod.rs, and the original of an item as a part of the
-- caller's word.
use Rattle.std.specs.Prelude.{◌≡◌, Bool, true, false, cond, List, [], ◌∷◌, ℕ, ◌+◌, ◌*◌, ◌/◌, ◌%◌, ℤ, pos, ltb, leb, eqb, length, take, drop}
use Rattle.std.proofs.Math.Option.{Option, none, some}
use Rattle.words.specs.Words.{word_of}
use Rattle.words.specs.Lists.{tabulate}
use Rattle.lang.specs.declared.Written.{Written}
use Rattle.lang.specs.Every.{both, every}
use Rattle.lang.specs.Checks.{unless, or_else, absent_refusal}
use Rattle.lang.specs.Answers.{Reply, written_reply, reply_of, list_of, room_refusal}
use Rattle.captions.specs.declared.NextLeft.{NextLeft}
use Rattle.captions.specs.declared.NextLeft.TheVariants as next
use Rattle.captions.specs.declared.State.{State}
use Rattle.captions.specs.Tables.{pair_count, number, op_kind, op_value, key_by, left_place, find, first_op, count_of, last_code}
use Rattle.captions.specs.Form.{key_form, table_refusal}
use Rattle.captions.specs.Replies.{bit_number}
use Rattle.captions.specs.Steps.{right_item}

-- ---- is_separation_point: whether a word can be parted here

-- the next left is no ligature: it is the boundary, a character, or nothing (R119)
abbrev pub not_ligature : NextLeft → Bool
not_ligature next.Boundary = true
not_ligature (next.Char c) = true
not_ligature (next.Lig c) = false
not_ligature (next.FinalLig c) = false
not_ligature next.None = true

-- no op is to be given, and the next left is no ligature
abbrev pub is_separation_point : State → Bool
is_separation_point s = cond (eqb s.ops 0) (not_ligature s.next_left) false

-- ---- the original of an item

-- n letters of the word from `start` on; nothing where the word does not hold them all (R120)
abbrev pub original_of : List ℕ → ℕ → ℕ → List ℕ
original_of word start n = cond (leb (start + n) (length word)) (take n (drop start word)) []

-- ---- has_replacement (R121, R122): whether a left (-1 the boundary) and a right (-1 the boundary character) have an entry

-- a pair was found
abbrev pub is_found : Option ℕ → Bool
is_found none = false
is_found (some k) = true

-- a left and a right item have a pair in the table; without a right item they have none
abbrev pub has_entry : List ℤ → ℤ → Option ℕ → Bool
has_entry pairs left none = false
has_entry pairs left (some r) = is_found (find pairs (key_by (left_place left) r))

-- 4, then 7 for pairs not in sixes (R123)
abbrev pub has_refusal : List ℤ → ℤ → ℤ → ℤ → ℕ
has_refusal pairs boundary left right =
    or_else (absent_refusal 255 boundary)
    (or_else (absent_refusal 255 left) (or_else (absent_refusal 255 right) (unless 7 (eqb (length pairs % 6) 0))))

-- THE contract of has_replacement: its answer, as a number and values (R285)
abbrev pub has_reply : List ℤ → ℤ → ℤ → ℤ → Reply
has_reply pairs boundary left right =
    reply_of (has_refusal pairs boundary left right) (bit_number (has_entry pairs left (right_item boundary right)) ∷ [])

-- ---- all_pairs_with_replacements (R124): left and right of every pair, in order

-- two numbers a pair: its left (-1 the boundary) and its right
abbrev pub keys_of : List ℤ → List ℤ
keys_of pairs = tabulate (2 * pair_count pairs) (λ j. number pairs (j / 2) (j % 2))

-- 7 (R125): pairs not in sixes, out of range or not ascending; 15 (R244)
abbrev pub keys_refusal : List ℤ → ℕ → ℕ
keys_refusal pairs room =
    or_else (unless 7 (both (eqb (length pairs % 6) 0) (every (pair_count pairs) (key_form pairs)))) (room_refusal (2 * pair_count pairs) room)

-- THE contract of all_pairs_with_replacements: `out` is the list as it was lent, out' as it comes back
pub record ListsPairs (pairs out : List ℤ) (r : Written) (out' : List ℤ) : Type 0 where
  pub answer : written_reply r ≡ reply_of (keys_refusal pairs (length out)) (pos (pair_count pairs) ∷ [])
  pub list : out' ≡ list_of (keys_refusal pairs (length out)) (pos 0) (length out) (keys_of pairs)

-- ---- is_seven_bit_safe (R126): what any pair of seven-bit characters (the left boundary among them) becomes is of seven-bit characters

-- op i is a kern, or gives a code below 128
abbrev pub op_is_seven_bit : List ℤ → ℕ → Bool
op_is_seven_bit ops i = cond (eqb (word_of (op_kind ops i)) 2) true (ltb (word_of (op_value ops i)) 128)

-- every op of pair k is so, and the code of its last is below 128
abbrev pub becomes_seven_bit : List ℤ → List ℤ → ℕ → Bool
becomes_seven_bit pairs ops k =
    both (every (count_of pairs k) (λ i. op_is_seven_bit ops (first_op pairs k + i))) (ltb (last_code pairs k) 128)

-- pair k becomes seven-bit characters, or its left or its right is above 127
abbrev pub pair_is_safe : List ℤ → List ℤ → ℕ → Bool
pair_is_safe pairs ops k =
    cond (both (leb (left_place (number pairs k 0)) 128) (ltb (word_of (number pairs k 1)) 128)) (becomes_seven_bit pairs ops k) true

-- THE contract of is_seven_bit_safe: its answer, as a number and values (R285); 7 of a table not of the form (R127)
abbrev pub safe_reply : List ℤ → List ℤ → Reply
safe_reply pairs ops = reply_of (table_refusal pairs ops) (bit_number (every (pair_count pairs) (pair_is_safe pairs ops)) ∷ [])
