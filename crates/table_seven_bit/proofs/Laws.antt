-- The seven-bit test by the tests of the code: a pair's record in a table of the form, and what is of seven-bit characters.
-- Assumes nothing.
use mathlib.Core.Path.{◌≡◌, refl, sym, ap, ◌∙◌}
use mathlib.Core.Bool.{Bool, true, false}
use mathlib.Core.List.{List}
use Prim.Native.Nat.{ℕ, ◌+◌, ◌%◌, ◌<◌, ◌≤◌}
use lib.IntN.{ℤ}
use lib.Dec.{ltb, eqb}
use borrow.Author.Tests.{le-leb, lt-leb, le-ltb, lt-ltb, eq-eqb, ne_eqb}
use Rattle.words.specs.Words.{Word, word_of}
use Rattle.lang.specs.Every.{both, every}
use Rattle.lang.proofs.Every.{both_left, both_right, every_at}
use Rattle.lang.proofs.Refusals.{unless_none}
use Rattle.reading.specs.Form.{formed}
use Rattle.fonts.specs.Fonts.{left_of}
use Rattle.captions.specs.Tables.{pair_count, op_count, op_fits, left_place, number, op_kind, op_value, first_op, last_code, entry_of_pair, record_fits}
use Rattle.captions.specs.Form.{ops_end, key_form, pair_form, sizes_form, table_form, table_refusal}
use Rattle.captions.specs.Queries.{op_is_seven_bit, becomes_seven_bit, pair_is_safe}

-- ---- a table of the form: each pair's record fits

pub table_fits : (pairs ops : List ℤ) (k : ℕ) → table_refusal pairs ops ≡ 0 → k < pair_count pairs → record_fits pairs ops k ≡ true
table_fits pairs ops k e h =
    let t = unless_none 6 (table_form pairs ops) e in
    let a = both_right (sizes_form pairs ops)
    (both (every (op_count ops) (op_fits ops)) (both (every (pair_count pairs) (pair_form pairs ops)) (eqb (ops_end pairs (pair_count pairs)) (op_count ops)))) t
    in
    let b = both_right (every (op_count ops) (op_fits ops))
    (both (every (pair_count pairs) (pair_form pairs ops)) (eqb (ops_end pairs (pair_count pairs)) (op_count ops))) a in
    let f = every_at (pair_count pairs) k (pair_form pairs ops)
    (both_left (every (pair_count pairs) (pair_form pairs ops)) (eqb (ops_end pairs (pair_count pairs)) (op_count ops)) b) h in
    fits (key_form pairs k) (record_fits pairs ops k)
    (both (eqb (first_op pairs k) (ops_end pairs k)) (formed (left_of (left_place (number pairs k 0))) (word_of (number pairs k 1)) (entry_of_pair pairs ops k))) f
  where
    fits : (x y z : Bool) → both x (both y z) ≡ true → y ≡ true
    fits true true z e = refl
    fits true false z e = e
    fits false y z e = cc

-- ---- seven-bit characters, from the words that were read

pub seven_kern : (ops : List ℤ) (i : ℕ) {v : ℕ} → Word (op_kind ops i) v → v ≡ 2 → true ≡ op_is_seven_bit ops i
seven_kern ops i p e = rw (eq-eqb (word_of (op_kind ops i)) 2 (sym p.is ∙ e))

pub seven_code : (ops : List ℤ) (i : ℕ) {v w : ℕ} → Word (op_kind ops i) v → (v ≡ 2 → ⊥) → Word (op_value ops i) w → ltb w 128 ≡ op_is_seven_bit ops i
seven_code ops i p h q = rw (ne_eqb (word_of (op_kind ops i)) 2 (λ e. h (p.is ∙ e)), q.is)

module _ (pairs ops : List ℤ) (k : ℕ) where
  pub becomes_by : {first count : ℕ} {t : Bool} → Word (number pairs k 4) first → Word (number pairs k 5) count →
      t ≡ every count (λ i. op_is_seven_bit ops (first + i)) → becomes_seven_bit pairs ops k ≡ both t (ltb (last_code pairs k) 128)
  becomes_by p q e = rw (e, p.is, q.is)

  module _ {w place : ℕ} (p : Word (number pairs k 0) w) (e : place ≡ (w + 1) % 4294967296) where
    left_is : left_place (number pairs k 0) ≡ place
    left_is = sym (e ∙ ap (λ (x : ℕ). (x + 1) % 4294967296) p.is)

    pub safe_left : 128 < place → true ≡ pair_is_safe pairs ops k
    safe_left h = rw (left_is, lt-leb place 128 h)

    pub safe_right : {v : ℕ} → place ≤ 128 → Word (number pairs k 1) v → 128 ≤ v → true ≡ pair_is_safe pairs ops k
    safe_right {v} h q l = rw (left_is, le-leb place 128 h, ← q.is, le-ltb v 128 l)

    pub safe_both : {v : ℕ} → place ≤ 128 → Word (number pairs k 1) v → v < 128 → becomes_seven_bit pairs ops k ≡ pair_is_safe pairs ops k
    safe_both {v} h q l = rw (left_is, le-leb place 128 h, ← q.is, lt-ltb v 128 l)
