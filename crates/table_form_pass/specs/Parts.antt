-- What is tested in one pass over the pairs of a table: `contentForm`, the form (R256 to R262) but for the sizes, and the parts of the pass
-- that have a function of their own. That the pass tests the form is proved.
use Rattle.std.specs.Prelude.{◌≡◌, Bool, true, cond, List, ℕ, zero, suc, ◌+◌, ◌-◌, ◌%◌, ℤ, leb, eqb}
use Rattle.words.specs.Words.{number_of}
use Rattle.lang.specs.Every.{both, every}
use Rattle.lang.specs.Records.{within, absent_or}
use Rattle.reading.specs.Items.{Left, bnd, Item, item}
use Rattle.reading.specs.Form.{ops_form}
use Rattle.fonts.specs.Fonts.{left_of}
use Rattle.captions.specs.Tables.{pair_count, op_count, number, left_place, key_at, first_op, count_of, last_code, last_flag, ops_from, op_holds}
use Rattle.captions.specs.Tables.{op_fits}
use Rattle.captions.specs.Form.{ops_end, pair_form}
use Rattle.table_numbers.specs.Parts.{last_fits}

-- ---- a pair's ops

-- n ops from i on hold what their kinds must
unfoldable pub ops_hold : List ℤ → ℕ → ℕ → Bool
ops_hold ops i zero = true
ops_hold ops i (suc n) = both (op_holds ops i) (ops_hold ops (suc i) n)

-- .. and they are of the form, of a left and a last
abbrev pub ops_pass : List ℤ → Left → Item → ℕ → ℕ → Bool
ops_pass ops l x i n = both (ops_hold ops i n) (ops_form l (ops_from ops i n) x)

-- of a last, its flag alone counts
abbrev pub OpsPass : List ℤ → Left → Bool → ℕ → ℕ → Bool → Type 0
OpsPass ops l f i end r = (code : ℕ) → r ≡ ops_pass ops l (item f code) i (end - i)

-- after the first character the ops are those of the left boundary, whatever the last
abbrev pub LaterPass : List ℤ → ℕ → ℕ → Bool → Type 0
LaterPass ops i end r = (x : Item) → r ≡ ops_pass ops bnd x i (end - i)

-- a left by its 32 bits
abbrev pub left_by : ℕ → Left
left_by w = left_of ((w + 1) % 4294967296)

-- one op by its bits: a kern; the left, which is a character; a ligature
abbrev pub op_passes : ℕ → ℕ → ℕ → Bool
op_passes left kind value =
    cond (eqb kind 2) true
    (cond (eqb kind 0) (both (leb left 255) (eqb value left))
    (both (eqb kind 1) (leb value 255)))

-- ---- a pair

-- right, last code and last flag, by their bits
abbrev pub codes_form : ℕ → ℕ → ℕ → Bool
codes_form right code flag =
    both (leb right 255)
    (both (leb code 255)
    (both (leb flag 1) (cond (eqb flag 1) true (eqb code right))))

-- a left in range, by its bits, and its ops
abbrev pub LeftPasses : List ℤ → ℕ → Bool → ℕ → ℕ → Bool → Type 0
LeftPasses ops left f i end r = (code : ℕ) → r ≡ both (absent_or 255 (number_of left)) (ops_pass ops (left_by left) (item f code) i (end - i))

-- pair k is of the form but for the order, if the ops of the pair before it end at op at; and its ops fit
abbrev pub pair_passes : List ℤ → List ℤ → ℕ → ℕ → Bool
pair_passes pairs ops k at =
    both (absent_or 255 (number pairs k 0))
    (both (within 255 (number pairs k 1))
    (both (last_fits pairs k)
    (both (eqb (first_op pairs k) at)
    (both (leb (at + count_of pairs k) (op_count ops))
    (ops_pass ops (left_of (left_place (number pairs k 0))) (item (last_flag pairs k) (last_code pairs k)) at (count_of pairs k))))))

-- the least key that pair k may have
abbrev pub least_at : List ℤ → ℕ → ℕ
least_at pairs zero = 0
least_at pairs (suc k) = key_at pairs k + 1

-- ---- a table

-- every op fits, every pair is of the form, and no op is left over
abbrev pub content_form : List ℤ → List ℤ → Bool
content_form pairs ops =
    both (every (op_count ops) (op_fits ops))
    (both (every (pair_count pairs) (pair_form pairs ops))
    (eqb (ops_end pairs (pair_count pairs)) (op_count ops)))
