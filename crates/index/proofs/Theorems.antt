-- Proves what specs/Purpose states: in the index of a table in ascending order a look-up finds what bisection finds. Word by word the index has the bits of
-- the rights that have a pair; so the place that is counted is how many keys come before the pair's.
-- Assumes nothing.
use mathlib.Core.Path.{◌≡◌, refl, sym, ap, ap₂, ◌∙◌}
use mathlib.Core.Bool.{Bool, true, false}
use mathlib.Core.List.{List, ◌++◌}
use mathlib.Core.Option.{Option, none, some}
use Prim.Native.Nat.{ℕ, zero, suc, ◌+◌, ◌-◌, ◌*◌, ◌/◌, ◌%◌, ◌^◌, ◌<◌, ◌≤◌}
use native.Mathlib.Omega.{arith}
use lib.IntN.{ℤ}
use lib.Dec.{eqb}
use lib.Count.{ones}
use lib.ListN.{length, get_or, replicate, get_or-append}
use borrow.Author.Tests.{le-leb, lt-ltb, eq-eqb, ne_eqb, eqb-true}
use Rattle.words.proofs.Lists.{length_tabulate, get_d_tabulate}
use Rattle.lang.specs.Every.{both, every}
use Rattle.lang.specs.Checks.{unless}
use Rattle.lang.specs.Answers.{list_of, room_refusal}
use Rattle.lang.proofs.Every.{both_right}
use Rattle.lang.proofs.Refusals.{or_else_none, unless_none}
use Rattle.captions.specs.Tables.{pair_count, key_by, key_at, find}
use Rattle.captions.specs.Form.{key_form}
use Rattle.captions.proofs.Bisecting.{finds}
use Rattle.captions.proofs.Finding.{find_inside}
use Rattle.index.specs.declared.Looked.TheVariants.{Missing}
use Rattle.index.specs.Index.{how_many, is_among, rights_of, pairs_before, index_number, index_of_table, FillsIndex, has_bit, ones_from, ones_below, place_in}
use Rattle.index.specs.Index.{looked_up, looked_at}
use Rattle.index.specs.Purpose.{LooksUpAsFound, FilledLooksUp}
use Rattle.index.proofs.Tests.{one, any_at, any_witness, many_add}
use Rattle.index.proofs.Bits.{bits_at, bits_low, ones_bits}
use Rattle.index.proofs.Places.{keys_below, before_right, before_pair}

is_one : (t : Bool) → eqb (one t) 1 ≡ t
is_one true = refl
is_one false = refl

module _ (pairs : List ℤ) (rest : List ℕ) (l : ℕ) (hl : l ≤ 256) where
  -- a right of the left has a pair
  abbrev has : ℕ → Bool
  has i = is_among pairs (pair_count pairs) (key_by l i)

  number_is : (i : ℕ) → i < 1285 → get_or (index_of_table pairs ++ rest) i 0 ≡ index_number pairs i
  number_is i h =
      get_or-append (index_of_table pairs) rest 0 i (rw (length_tabulate 1285 (index_number pairs)) h) ∙ get_d_tabulate 1285 (index_number pairs) i 0 h

  word_is : (w : ℕ) → w < 4 → get_or (index_of_table pairs ++ rest) (5 * l + w) 0 ≡ rights_of pairs (pair_count pairs) l w
  word_is w h =
      let a : (5 * l + w) % 5 ≡ w = omega arith in
      let b : (5 * l + w) / 5 ≡ l = omega arith in
      number_is (5 * l + w) (omega arith) ∙ rw (a, b, ne_eqb w 4 (λ e. omega arith))

  count_is : get_or (index_of_table pairs ++ rest) (5 * l + 4) 0 ≡ pairs_before pairs l
  count_is =
      let a : (5 * l + 4) % 5 ≡ 4 = omega arith in
      let b : (5 * l + 4) / 5 ≡ l = omega arith in
      number_is (5 * l + 4) (omega arith) ∙ rw (a, b)

  -- the words before the w-th
  words_before : (w : ℕ) → w ≤ 4 → ones_from (index_of_table pairs ++ rest) (5 * l) w ≡ how_many (64 * w) has
  unfolding ones_from how_many
  words_before zero h = refl
  words_before (suc w) h =
      let e : 64 * suc w ≡ 64 * w + 64 = omega arith in
      ap₂ (λ (a b : ℕ). a + b) (words_before w (omega arith)) (ap ones (word_is w (omega arith)) ∙ ones_bits 64 (λ b. has (64 * w + b)))
      ∙ sym (ap (λ (m : ℕ). how_many m has) e ∙ many_add (64 * w) 64 has)

  module _ (r : ℕ) (hr : r ≤ 255) where
    own-bit : 64 * (r / 64) + r % 64 ≡ r
    own-bit = omega arith

    bit_is : has_bit (index_of_table pairs ++ rest) l r ≡ has r
    bit_is =
        rw (le-leb r 255 hr, word_is (r / 64) (omega arith), bits_at (λ b. has (64 * (r / 64) + b)) (r % 64) 64 (omega arith), own-bit) (is_one (has r))

    ones_below_lem : ones_below (index_of_table pairs ++ rest) l r ≡ how_many r has
    ones_below_lem =
        ap₂ (λ (a b : ℕ). a + b) (words_before (r / 64) (omega arith))
        (ap (λ (x : ℕ). ones (x % 2 ^ (r % 64))) (word_is (r / 64) (omega arith))
        ∙ ap ones (bits_low (λ b. has (64 * (r / 64) + b)) (r % 64) 64 (omega arith)) ∙ ones_bits (r % 64) (λ b. has (64 * (r / 64) + b)))
        ∙ sym (ap (λ (m : ℕ). how_many m has) (sym own-bit) ∙ many_add (64 * (r / 64)) (r % 64) has)

    module _ (form : every (pair_count pairs) (key_form pairs) ≡ true) where
      place_is : place_in (index_of_table pairs ++ rest) l r ≡ keys_below pairs (key_by l r)
      place_is = ap₂ (λ (a b : ℕ). a + b) count_is ones_below_lem ∙ sym (before_right pairs form l r)

      -- the pair is at k
      there : (k : ℕ) → k < pair_count pairs → key_at pairs k ≡ key_by l r → has r ≡ true →
          looked_up (index_of_table pairs ++ rest) pairs l r ≡ looked_at (find pairs (key_by l r))
      there k h e t =
          let p : place_in (index_of_table pairs ++ rest) l r ≡ k = place_is ∙ ap (keys_below pairs) (sym e) ∙ before_pair pairs form k h in
          let f : find pairs (key_by l r) ≡ some k = ap (find pairs) (sym e) ∙ finds pairs form k h in
          rw (bit_is ∙ t, p, lt-ltb k (pair_count pairs) h, eq-eqb (key_at pairs k) (key_by l r) e, f)

      missing_by : (f : Option ℕ) → find pairs (key_by l r) ≡ f → has r ≡ false → Missing ≡ looked_at f
      missing_by none e t = refl
      missing_by (some k) e t =
          let i = find_inside pairs (key_by l r) k e in
          let a : has r ≡ true = any_at (pair_count pairs) k (λ j. eqb (key_at pairs j) (key_by l r)) i.0 (eq-eqb (key_at pairs k) (key_by l r) i.1) in
          absurd (let z : ◌≡◌ {A = ℕ} 0 1 = cc in omega arith)

      found_by_lem : (t : Bool) → has r ≡ t → looked_up (index_of_table pairs ++ rest) pairs l r ≡ looked_at (find pairs (key_by l r))
      found_by_lem true t =
          let w = any_witness (pair_count pairs) (λ j. eqb (key_at pairs j) (key_by l r)) t in
          there w.0 w.1 (eqb-true (key_at pairs w.0) (key_by l r) w.2) t
      found_by_lem false t = rw (bit_is ∙ t) (missing_by (find pairs (key_by l r)) refl t)

pub looks_up_as_found : LooksUpAsFound
looks_up_as_found pairs rest l r form hl hr = found_by_lem pairs rest l hl r hr form (is_among pairs (pair_count pairs) (key_by l r)) refl

-- ---- the index that the filling call wrote

-- its table's keys are of the form, and the list begins with the index
pub record Wrote (pairs : List ℤ) (index : List ℕ) : Type 0 where
  pub form : every (pair_count pairs) (key_form pairs) ≡ true
  pub rest : List ℕ
  pub is : index ≡ index_of_table pairs ++ rest

pub wrote : (pairs : List ℤ) (index index' : List ℕ) → FillsIndex pairs index 0 index' → Wrote pairs index'
wrote pairs index index' f =
    let keys = both (eqb (length pairs % 6) 0) (every (pair_count pairs) (key_form pairs)) in
    let z = (or_else_none (unless 7 keys) (room_refusal 1285 (length index)) (sym f.answer)).0 in
    record {
      form = both_right (eqb (length pairs % 6) 0) (every (pair_count pairs) (key_form pairs)) (unless_none 6 keys z);
      rest = replicate (length index - length (index_of_table pairs)) 0;
      is = f.list ∙ ap (λ (m : ℕ). list_of m 0 (length index) (index_of_table pairs)) (sym f.answer);
    }

pub filled_looks_up : FilledLooksUp
filled_looks_up pairs index index' l r f hl hr =
    let w = wrote pairs index index' f in
    ap (λ (i : List ℕ). looked_up i pairs l r) w.is ∙ looks_up_as_found pairs w.rest l r w.form hl hr
