-- The numbers of a pair, from the words that were read. Assumes nothing.
use mathlib.Core.Path.{◌≡◌, refl, sym, ◌∙◌}
use mathlib.Core.Bool.{Bool, true, false, cond}
use mathlib.Core.List.{List}
use Prim.Native.Nat.{ℕ, ◌+◌, ◌-◌, ◌*◌, ◌/◌, ◌%◌, ◌^◌, ◌<◌, ◌≤◌}
use native.Mathlib.Omega.{arith}
use lib.IntN.{ℤ, pos}
use lib.Dec.{leb, eqb}
use lib.ListN.{get_or}
use borrow.Author.Tests.{le-leb, lt-leb, leb-true, leb-false, eq-eqb, ne_eqb}
use mir.Syntax.{w32}
use mir.Val.{of_z, to_z, SFits}
use Rattle.words.specs.Words.{Word, word_of, number_of}
use Rattle.words.proofs.Bits.{number_is}
use Rattle.lang.specs.Every.{both}
use Rattle.lang.specs.Records.{within, absent_or}
use Rattle.lang.proofs.Every.{both_true, both_false}
use Rattle.lang.proofs.Records.{word_passed, within_read, absent_within, absent_past}
use Rattle.reading.specs.Items.{item}
use Rattle.fonts.specs.Fonts.{left_of}
use Rattle.captions.specs.Tables.{op_count, number, left_place, key_at, first_op, count_of, last_code, last_flag}
use Rattle.table_numbers.specs.Parts.{last_fits}
use Rattle.table_numbers.proofs.Records.{both_assoc}
use Rattle.table_form_pass.specs.Parts.{ops_pass, OpsPass, left_by, codes_form, LeftPasses, pair_passes}

-- number j of the pair at number p, where it was read
pub number_read : (pairs : List ℤ) (p i j : ℕ) {w : ℕ} → p % 6 ≡ 0 → i ≡ p + j → SFits w32 (get_or pairs i (pos 0)) →
    w ≡ word_of (to_z w32 (of_z w32 (get_or pairs i (pos 0)))) → Word (number pairs (p / 6) j) w
number_read pairs p i j h e f q = let d : 6 * (p / 6) + j ≡ i = omega arith in rw d (word_passed f q)

pub key_read : (pairs : List ℤ) (k : ℕ) {left right place : ℕ} → Word (number pairs k 0) left → Word (number pairs k 1) right →
    place ≡ (left + 1) % 4294967296 → 4294967296 * place + right ≡ key_at pairs k
key_read pairs k l r e = rw (e, l.is, r.is)

-- ---- left, right and last, test by test

always : (t : Bool) → cond t true true ≡ true
always true = refl
always false = refl

-- a left in range, by its place
module _ (left : ℕ) (f : left < 2 ^ 32) where
  left_out : 256 < (left + 1) % 4294967296 → absent_or 255 (number_of left) ≡ false
  left_out h = absent_past 255 left (omega arith) f ∙ ne_eqb left 4294967295 (omega arith)

  left_in : (left + 1) % 4294967296 ≤ 256 → absent_or 255 (number_of left) ≡ true
  left_in h = go (leb left 255) refl
    where
      go : (t : Bool) → leb left 255 ≡ t → absent_or 255 (number_of left) ≡ true
      go true e = absent_within 255 left (omega arith) (leb-true left 255 e) ∙ e
      go false e = let l : 255 < left = leb-false left 255 e in absent_past 255 left l f ∙ eq-eqb left 4294967295 (omega arith)

  -- the ops of a left that is in range, or is not
  module _ (ops : List ℤ) (g : Bool) (i end : ℕ) {place : ℕ} (p : place ≡ (left + 1) % 4294967296) where
    pub left_refused : 256 < place → LeftPasses ops left g i end false
    left_refused h code = rw (left_out (omega arith))

    pub left_taken : {r : Bool} → place ≤ 256 → OpsPass ops (left_by left) g i end r → LeftPasses ops left g i end r
    left_taken h q code = rw (left_in (omega arith)) (q code)

  -- an op that is the left tests it
  pub left_op : (value : ℕ) {r x : Bool} → r ≡ both (leb left 255) (eqb value left) → r ≡ x → r ≡ both (absent_or 255 (number_of left)) x
  left_op value {r} {x} e q = go (leb left 255) refl
    where
      go : (t : Bool) → leb left 255 ≡ t → r ≡ both (absent_or 255 (number_of left)) x
      go true u = rw (absent_within 255 left (omega arith) (leb-true left 255 u), u) q
      go false u =
          let z : r ≡ false = rw u at e in
          let y : x ≡ false = sym q ∙ z in
          rw (y, both_false (absent_or 255 (number_of left))) z

module _ (right code flag : ℕ) where
  pub no_right : 255 < right → false ≡ codes_form right code flag
  no_right h = rw (lt-leb right 255 h)

  module _ (h : right ≤ 255) where
    pub last_right : code ≡ right → leb flag 1 ≡ codes_form right code flag
    last_right e = rw (e, le-leb right 255 h, eq-eqb right right refl, always (eqb flag 1)) (sym (both_true (leb flag 1)))

    pub last_flagged : flag ≡ 1 → leb code 255 ≡ codes_form right code flag
    last_flagged e = rw (le-leb right 255 h, e) (sym (both_true (leb code 255)))

    pub last_other : (code ≡ right → ⊥) → (flag ≡ 1 → ⊥) → eqb flag 1 ≡ codes_form right code flag
    last_other n m = rw (le-leb right 255 h, ne_eqb flag 1 m, ne_eqb code right n, both_false (leb flag 1)) (sym (both_false (leb code 255)))

-- of the numbers that were read
pub codes_read : (pairs : List ℤ) (k : ℕ) {right code flag : ℕ} → Word (number pairs k 1) right → Word (number pairs k 2) code →
    Word (number pairs k 3) flag → codes_form right code flag ≡ both (within 255 (number pairs k 1)) (last_fits pairs k)
codes_read pairs k r c f =
    rw (
      within_read 255 r (omega arith),
      within_read 255 c (omega arith),
      within_read 1 f (omega arith),
      ← f.is,
      ← c.is,
      ← r.is,
    )

-- the first of six tests made with the last
left_last : (a w l b e p : Bool) → both (both w l) (both b (both e (both a p))) ≡ both a (both w (both l (both b (both e p))))
left_last true w l b e p = both_assoc w l (both b (both e p))
left_last false w l b e p = rw (both_false e, both_false b) (both_false (both w l))

-- ---- a pair, test by test

module _ (pairs ops : List ℤ) (k at : ℕ) where
  abbrev A : Bool
  A = absent_or 255 (number pairs k 0)

  abbrev W : Bool
  W = within 255 (number pairs k 1)

  abbrev P : Bool
  P = ops_pass ops (left_of (left_place (number pairs k 0))) (item (last_flag pairs k) (last_code pairs k)) at (count_of pairs k)

  abbrev B : Bool
  B = eqb (first_op pairs k) at

  abbrev E : Bool
  E = leb (at + count_of pairs k) (op_count ops)

  abbrev R : Bool
  R = both B (both E (both A P))

  codes_part : both (both W (last_fits pairs k)) R ≡ pair_passes pairs ops k at
  codes_part = left_last A W (last_fits pairs k) B E P

  module _ {right code flag : ℕ} (r : Word (number pairs k 1) right) (c : Word (number pairs k 2) code) (f : Word (number pairs k 3) flag) where
    pub pair_codes : codes_form right code flag ≡ false → false ≡ pair_passes pairs ops k at
    pair_codes e = rw (sym (codes_read pairs k r c f) ∙ e) at codes_part

    module _ (t : codes_form right code flag ≡ true) {first : ℕ} (p : Word (number pairs k 4) first) where
      rest_part : R ≡ pair_passes pairs ops k at
      rest_part = rw (sym (codes_read pairs k r c f) ∙ t) at codes_part

      pub pair_gap : (first ≡ at → ⊥) → false ≡ pair_passes pairs ops k at
      pair_gap h = let z : R ≡ false = rw (ne_eqb (first_op pairs k) at (λ e. h (p.is ∙ e))) in sym z ∙ rest_part

      module _ (e : first ≡ at) {count : ℕ} (n : Word (number pairs k 5) count) where
        begins : eqb (first_op pairs k) at ≡ true
        begins = eq-eqb (first_op pairs k) at (sym p.is ∙ e)

        pub pair_over : op_count ops < at + count → false ≡ pair_passes pairs ops k at
        pair_over h =
            let z : R ≡ false = rw (begins, lt-leb (at + count_of pairs k) (op_count ops) (omega (arith, n.is))) in
            sym z ∙ rest_part

        pub pair_ops : {left : ℕ} → Word (number pairs k 0) left → at + count ≤ op_count ops → {b : Bool} → LeftPasses ops left (eqb flag 1) at (at + count) b →
            b ≡ pair_passes pairs ops k at
        pair_ops l h q =
            let d : at + count - at ≡ count = omega arith in
            let z : R ≡ both A P = rw (begins, le-leb (at + count_of pairs k) (op_count ops) (omega (arith, n.is))) in
            rw (d, number_is l, l.is, f.is, n.is) at (q (last_code pairs k)) ∙ sym z ∙ rest_part
