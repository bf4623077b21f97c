-- What the passes over settled rows go by: the parts that a row's ops are made of, what each pass has done so far, and ops as they stand
-- in a list.
use Rattle.std.specs.Prelude.{◌≡◌, Bool, true, false, cond, List, [], ◌∷◌, ◌⊎◌, ℕ, zero, suc, ◌+◌, ◌*◌, ◌<◌, ◌≤◌, leb, eqb, ℤ, length, take, drop}
use Rattle.std.proofs.Math.Option.{Option, none, some}
use Rattle.std.proofs.lemmas.List.Edits.{sets}
use Rattle.words.specs.Words.{number_of}
use Rattle.reading.specs.Items.{plain, inserted, Out, glyph, kern}
use Rattle.reading.specs.Depth.{raise}
use Rattle.compiling.specs.declared.Part.{Part}
use Rattle.compiling.specs.declared.Part.TheVariants.{Nothing, Character, Ligature, Kern, OfRow}
use Rattle.compiling.specs.Rows.{at, row_of}
use Rattle.fonts.specs.Fonts.{left_of}
use Rattle.compiling.specs.SettledRows.{outcome}
use Rattle.fonts.specs.Numbers.{ops_of, op_numbers, left_number}
use Rattle.compiling.specs.OpRows.{row_ops, op_total, capped, OnlyField, Ready}

-- ---- the parts of a row's ops

-- a left that is finished: the boundary gives nothing
abbrev pub left_part : ℕ → Part
left_part zero = Nothing
left_part (suc c) = Character c

-- the ops of a pair: those of its row; where it has none, its left finished
abbrev pub part_by : ℕ → Option ℕ → Part
part_by t none = left_part t
part_by t (some k) = OfRow k

-- the ops of left t (0 the boundary, else 1 + character) and right r, by their row among the first n
abbrev pub pair_part : ℕ → List ℕ → ℕ → ℕ → Part
pair_part n w t r = part_by t (row_of w n t r)

-- the code of a pair's last: its row's; where it has none, its right's
abbrev pub last_by : List ℕ → ℕ → Option ℕ → ℕ
last_by w r none = r
last_by w r (some k) = at w k 6

-- the code of their last, by that row
abbrev pub row_last_code : ℕ → List ℕ → ℕ → ℕ → ℕ
row_last_code n w t r = last_by w r (row_of w n t r)

-- x is one of a list of op bytes
abbrev pub any_of : ℕ → List ℕ → Bool
any_of x [] = false
any_of x (y ∷ ys) = cond (eqb x y) true (any_of x ys)

-- what stands first in the ops of a left t and a right with the op and value v: the ops of (t, v), or t finished
unfoldable pub first_of : ℕ → List ℕ → ℕ → ℕ → ℕ → Part
first_of n w op t v = cond (leb 6 op) (left_part t) (cond (any_of op (2 ∷ 3 ∷ [])) (pair_part n w t v) Nothing)

-- what follows it, with its first character a ligature: the kern, the inserted character, or the ops of that, or of the last of (t, v),
-- with the right r
unfoldable pub second_of : ℕ → List ℕ → ℕ → ℕ → ℕ → ℕ → Part
second_of n w op t v r =
    cond (eqb op 128) (Kern v)
    (cond (any_of op (5 ∷ 11 ∷ [])) (Ligature v)
    (cond (any_of op (1 ∷ 7 ∷ [])) (pair_part n w (suc v) r)
    (cond (eqb op 3) (pair_part n w (suc (row_last_code n w t v)) r) Nothing)))

-- what stands first in the ops of row k
abbrev pub first_part : ℕ → List ℕ → ℕ → Part
first_part n w k = first_of n w (at w k 3) (at w k 0) (at w k 4)

-- what follows it in the ops of row k
abbrev pub second_part : ℕ → List ℕ → ℕ → Part
second_part n w k = second_of n w (at w k 3) (at w k 0) (at w k 4) (at w k 1)

-- row k consults no last that is not a character
abbrev pub LastFits : ℕ → List ℕ → ℕ → Type 0
LastFits n w k = at w k 3 ≡ 3 → row_last_code n w (at w k 0) (at w k 4) < 256

-- the ops of a part
abbrev pub part_outs : ℕ → List ℕ → Part → List Out
part_outs n w Nothing = []
part_outs n w (Character c) = glyph (plain c) ∷ []
part_outs n w (Ligature c) = glyph (inserted c) ∷ []
part_outs n w (Kern v) = kern (number_of v) ∷ []
part_outs n w (OfRow k) = ops_of (outcome n w k)

-- ops whose first character is a ligature
unfoldable pub raised_outs : List Out → List Out
raised_outs [] = []
raised_outs (glyph y ∷ os) = glyph (raise true y) ∷ os
raised_outs (kern k ∷ os) = kern k ∷ raised_outs os

-- ---- counting

-- how many ops a part has, by the counts of the rows
abbrev pub part_count : List ℕ → Part → ℕ
part_count w Nothing = 0
part_count w (Character c) = 1
part_count w (Ligature c) = 1
part_count w (Kern v) = 1
part_count w (OfRow k) = at w k 12

-- how many ops row k has, by the counts of its two parts, up to 2 ^ 31
abbrev pub row_count : ℕ → List ℕ → ℕ → ℕ
row_count n w k = capped (part_count w (first_part n w k) + part_count w (second_part n w k))

-- the sum of the counts of the first k rows
unfoldable pub counts_before : List ℕ → ℕ → ℕ
counts_before w zero = 0
counts_before w (suc k) = counts_before w k + at w k 12

-- number g of the first i rows is v; u is w but for number g of the first n
pub record FieldStored (g n : ℕ) (v : ℕ → ℕ) (w u : List ℕ) (i : ℕ) : Type 0 where
  pub only : OnlyField g n w u
  pub stored : (k : ℕ) → k < i → at u k g ≡ v k

-- the rows after the pass that counts: number 12 of each is how many ops it has, up to 2 ^ 31
pub record OpsCounted (n : ℕ) (w u : List ℕ) : Type 0 where
  pub only : OnlyField 12 n w u
  pub counts : (k : ℕ) → k < n → at u k 12 ≡ capped (row_ops n w k)

-- ---- writing

-- the six numbers of row k
abbrev pub row_numbers : List ℕ → ℕ → List ℤ
row_numbers w k =
    left_number (left_of (at w k 0)) ∷ number_of (at w k 1) ∷ number_of (at w k 6) ∷ number_of (at w k 7)
    ∷ number_of (at w k 13) ∷ number_of (at w k 12) ∷ []

-- vs stands in d from place p on
abbrev pub Segment : List ℤ → ℕ → List ℤ → Type 0
Segment d p vs = take (length vs) (drop p d) ≡ vs

-- the numbers of os stand in d from place p on, up to place e
pub record OpsAt (d : List ℤ) (p e : ℕ) (os : List Out) : Type 0 where
  pub ends : e ≡ p + length (op_numbers os)
  pub stand : Segment d p (op_numbers os)

-- `count` places from `from` on, and as many from `to` on, do not meet
abbrev pub Apart : ℕ → ℕ → ℕ → Type 0
Apart from to count = (from + count ≤ to) ⊎ (to + count ≤ from)

-- where the ops of row k stand in the list of ops, two numbers an op
abbrev pub ops_place : List ℕ → ℕ → ℕ
ops_place w k = 2 * at w k 13

-- how many numbers they are
abbrev pub ops_size : List ℕ → ℕ → ℕ
ops_size w k = 2 * at w k 12

-- the ops of row k can be copied to place p of d
pub record Copies (w : List ℕ) (d : List ℤ) (p k : ℕ) : Type 0 where
  pub row : k < 65792
  pub there : ops_place w k + ops_size w k ≤ length d
  pub room : p + ops_size w k ≤ length d
  pub apart : Apart (ops_place w k) p (ops_size w k)

-- a part can be written at place p of d
abbrev pub PartFits : List ℕ → List ℤ → ℕ → Part → Type 0
PartFits w d p Nothing = Unit {0}
PartFits w d p (Character c) = p + 2 ≤ length d
PartFits w d p (Ligature c) = p + 2 ≤ length d
PartFits w d p (Kern v) = p + 2 ≤ length d
PartFits w d p (OfRow k) = Copies w d p k

-- the numbers of a part, by the ops that d holds
abbrev pub part_numbers : List ℕ → List ℤ → Part → List ℤ
part_numbers w d Nothing = []
part_numbers w d (Character c) = number_of 0 ∷ number_of c ∷ []
part_numbers w d (Ligature c) = number_of 1 ∷ number_of c ∷ []
part_numbers w d (Kern v) = number_of 2 ∷ number_of v ∷ []
part_numbers w d (OfRow k) = take (ops_size w k) (drop (ops_place w k) d)

-- a part was written at place p, and r is the place after it
pub record PartWritten (w : List ℕ) (d d' : List ℤ) (p r : ℕ) (part : Part) : Type 0 where
  pub next : r ≡ p + length (part_numbers w d part)
  pub written : d' ≡ sets d p (part_numbers w d part)

-- the ops of row k stand where they are to
abbrev pub RowWritten : ℕ → List ℕ → List ℤ → ℕ → Type 0
RowWritten n w d k = Segment d (ops_place w k) (op_numbers (ops_of (outcome n w k)))

-- the rows that finished before row number `turn` of the order are written
abbrev pub WrittenBefore : ℕ → List ℕ → List ℤ → ℕ → Type 0
WrittenBefore n w d turn = (k : ℕ) → k < n → at w k 5 ≡ 2 → at w k 11 < turn → RowWritten n w d k

-- the turn of row k: it is finished, and the rows that finished before it are written
pub record ToWrite (n : ℕ) (w : List ℕ) (d : List ℤ) (k : ℕ) : Type 0 where
  pub finished : ℕ
  pub ready : Ready n finished w
  pub row : k < n
  pub status : at w k 5 ≡ 2
  pub room : 2 * op_total n w ≤ length d
  pub before : WrittenBefore n w d (at w k 11)
