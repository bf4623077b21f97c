-- A pair's ops stepped from the front, from the words that were read: each holds what its kind must, and they are of the form.
-- Assumes nothing.
use mathlib.Core.Path.{◌≡◌, refl, sym, ◌∙◌}
use mathlib.Core.Bool.{Bool, true, false, cond}
use mathlib.Core.List.{List, [], ◌∷◌}
use Prim.Native.Nat.{ℕ, suc, ◌+◌, ◌-◌, ◌%◌, ◌^◌, ◌<◌, ◌≤◌}
use native.Mathlib.Numerals.{add-one}
use native.Mathlib.Omega.{arith}
use lib.IntN.{ℤ}
use lib.Dec.{leb, eqb}
use borrow.Author.Tests.{lt-leb, eq-eqb, ne_eqb, eqb-true, eqb-false}
use Rattle.words.specs.Words.{Word}
use Rattle.lang.specs.Every.{both}
use Rattle.lang.proofs.Every.{both_true, both_false}
use Rattle.reading.specs.Items.{Left, bnd, chr, Item, item, Out, glyph, kern}
use Rattle.reading.specs.Form.{no_plain, is_left, last_takes, ops_form}
use Rattle.captions.specs.Tables.{op_kind, op_value, op_at, ops_from, op_holds}
use Rattle.table_numbers.proofs.Records.{both_assoc, op_code, op_kern}
use Rattle.table_form_pass.specs.Parts.{ops_hold, ops_pass, left_by, op_passes}

-- ---- a left by its bits

left_none : (w : ℕ) → w ≡ 4294967295 → left_by w ≡ bnd
left_none w e = rw e

left_char : (w : ℕ) → w < 2 ^ 32 → (w ≡ 4294967295 → ⊥) → left_by w ≡ chr w
left_char w l h = let e : (w + 1) % 4294967296 ≡ suc w = omega arith in rw e

-- where there is no character: the last of a left character is flagged
pub takes_none : (w : ℕ) (x : Item) → w ≡ 4294967295 → last_takes (left_by w) x ≡ true
takes_none w x e = rw (left_none w e)

pub takes_char : (w : ℕ) (f : Bool) (c : ℕ) → w < 2 ^ 32 → (w ≡ 4294967295 → ⊥) → last_takes (left_by w) (item f c) ≡ f
takes_char w f c l h = rw (left_char w l h)

-- a plain op has a code and is the left: the left is a character, and the op is it
plain_left_lem : (left value : ℕ) → left < 2 ^ 32 → both (leb value 255) (is_left (left_by left) value) ≡ both (leb left 255) (eqb value left)
plain_left_lem left value l = go (eqb left 4294967295) refl (eqb value left) refl
  where
    go : (t : Bool) → eqb left 4294967295 ≡ t → (u : Bool) → eqb value left ≡ u →
        both (leb value 255) (is_left (left_by left) value) ≡ both (leb left 255) (eqb value left)
    go true e u f =
        let n : left ≡ 4294967295 = eqb-true left 4294967295 e in
        rw (left_none left n, lt-leb left 255 (omega arith)) (both_false (leb value 255))
    go false e true f = rw (left_char left l (eqb-false left 4294967295 e), eqb-true value left f)
    go false e false f =
        rw (left_char left l (eqb-false left 4294967295 e), f) (both_false (leb value 255) ∙ sym (both_false (leb left 255)))

-- ---- after the first character

-- no plain op: the form of the left boundary
later_bnd : (os : List Out) (x : Item) → no_plain os ≡ ops_form bnd os x
unfolding no_plain ops_form
later_bnd [] x = refl
later_bnd (kern k ∷ os) x = later_bnd os x
later_bnd (glyph (item true c) ∷ os) x = refl
later_bnd (glyph (item false c) ∷ os) x = refl

-- ---- one op

swap : (v h l m : Bool) → both (both v h) (cond l m false) ≡ both (both v l) (both h m)
swap false h l m = refl
swap true false true m = refl
swap true false false m = refl
swap true true true m = refl
swap true true false m = refl

module _ (ops : List ℤ) (i n : ℕ) (x : Item) where
  by_op : (l : Left) (h : Bool) (o : Out) → op_holds ops i ≡ h → op_at ops i ≡ o →
      ops_pass ops l x i (suc n) ≡ both (both h (ops_hold ops (suc i) n)) (ops_form l (o ∷ ops_from ops (suc i) n) x)
  unfolding ops_hold ops_from
  by_op l h o e f = rw (e, f)

  module _ {kind : ℕ} (p : Word (op_kind ops i) kind) where
    holds_kern : 1 < kind → op_holds ops i ≡ eqb kind 2
    holds_kern h = sym (op_kern (op_kind ops i) (op_value ops i) kind 0 p h)

    kern_op_lem : kind ≡ 2 → op_at ops i ≡ kern (op_value ops i)
    kern_op_lem e = rw (← p.is, e)

    -- a kern
    kern-passes : (l : Left) → kind ≡ 2 → ops_pass ops l x i (suc n) ≡ ops_pass ops l x (suc i) n
    unfolding ops_form
    kern-passes l e = by_op l true (kern (op_value ops i)) (holds_kern (omega arith) ∙ eq-eqb kind 2 e) (kern_op_lem e)

    module _ {value : ℕ} (q : Word (op_value ops i) value) where
      holds_code : kind ≤ 1 → op_holds ops i ≡ leb value 255
      holds_code h = sym (op_code (op_kind ops i) (op_value ops i) kind value p h q)

      plain_op : kind ≡ 0 → op_at ops i ≡ glyph (item false value)
      plain_op e = rw (← p.is, ← q.is, e)

      ligature_op : kind ≡ 1 → op_at ops i ≡ glyph (item true value)
      ligature_op e = rw (← p.is, ← q.is, e)

      -- no kern: a character, by its kind
      module _ (left : ℕ) (l : left < 2 ^ 32) where
        plain_passes : kind ≡ 0 → ops_pass ops (left_by left) x i (suc n) ≡ both (op_passes left kind value) (ops_pass ops bnd x (suc i) n)
        unfolding ops_form
        plain_passes e =
            by_op (left_by left) (leb value 255) (glyph (item false value)) (holds_code (omega arith)) (plain_op e)
            ∙ swap (leb value 255) (ops_hold ops (suc i) n) (is_left (left_by left) value) (no_plain (ops_from ops (suc i) n))
            ∙ rw (plain_left_lem left value l, later_bnd (ops_from ops (suc i) n) x, e)

        ligature-passes : kind ≡ 1 → ops_pass ops (left_by left) x i (suc n) ≡ both (op_passes left kind value) (ops_pass ops bnd x (suc i) n)
        unfolding ops_form
        ligature-passes e =
            by_op (left_by left) (leb value 255) (glyph (item true value)) (holds_code (omega arith)) (ligature_op e)
            ∙ both_assoc (leb value 255) (ops_hold ops (suc i) n) (no_plain (ops_from ops (suc i) n))
            ∙ rw (later_bnd (ops_from ops (suc i) n) x, e)

        neither-passes : 2 < kind → ops_pass ops (left_by left) x i (suc n) ≡ both (op_passes left kind value) (ops_pass ops bnd x (suc i) n)
        neither-passes h =
            by_op (left_by left) false (op_at ops i) (holds_kern (omega arith) ∙ ne_eqb kind 2 (omega arith)) refl
            ∙ rw (ne_eqb kind 2 (omega arith), ne_eqb kind 0 (omega arith), ne_eqb kind 1 (omega arith))

        character_by : (t u : Bool) → eqb kind 0 ≡ t → eqb kind 1 ≡ u → (kind ≡ 2 → ⊥) →
            ops_pass ops (left_by left) x i (suc n) ≡ both (op_passes left kind value) (ops_pass ops bnd x (suc i) n)
        character_by true u e f h = plain_passes (eqb-true kind 0 e)
        character_by false true e f h = ligature-passes (eqb-true kind 1 f)
        character_by false false e f h = neither-passes (omega (arith, eqb-false kind 0 e, eqb-false kind 1 f, h))

        character-passes : (kind ≡ 2 → ⊥) → ops_pass ops (left_by left) x i (suc n) ≡ both (op_passes left kind value) (ops_pass ops bnd x (suc i) n)
        character-passes h = character_by (eqb kind 0) (eqb kind 1) refl refl h

      -- after the first character
      later_by : (t : Bool) → eqb kind 2 ≡ t → ops_pass ops bnd x i (suc n) ≡ both (op_passes 4294967295 kind value) (ops_pass ops bnd x (suc i) n)
      later_by true e = let z : kind ≡ 2 = eqb-true kind 2 e in kern-passes bnd z ∙ rw z
      later_by false e = character-passes 4294967295 (omega arith) (eqb-false kind 2 e)

-- ---- up to an end, as a loop goes

module _ (ops : List ℤ) (i end : ℕ) where
  -- no op
  pub none_pass : (l : Left) (x : Item) → end ≤ i → ops_pass ops l x i (end - i) ≡ last_takes l x
  unfolding ops_hold ops_from ops_form
  none_pass l x h = let e : end - i ≡ 0 = omega arith in rw e

  module _ (h : i < end) {kind : ℕ} (p : Word (op_kind ops i) kind) (x : Item) where
    one_more : end - i ≡ suc (end - (i + 1))
    one_more = omega arith

    pub pass_kern : (l : Left) → kind ≡ 2 → ops_pass ops l x i (end - i) ≡ ops_pass ops l x (i + 1) (end - (i + 1))
    pass_kern l e = rw (one_more, add-one i) (kern-passes ops i (end - suc i) x p l e)

    module _ {value : ℕ} (q : Word (op_value ops i) value) where
      pub pass_character : (left : ℕ) → left < 2 ^ 32 → (kind ≡ 2 → ⊥) →
          ops_pass ops (left_by left) x i (end - i) ≡ both (op_passes left kind value) (ops_pass ops bnd x (i + 1) (end - (i + 1)))
      pass_character left l n = rw (one_more, add-one i) (character-passes ops i (end - suc i) x p q left l n)

      pub pass_later : ops_pass ops bnd x i (end - i) ≡ both (op_passes 4294967295 kind value) (ops_pass ops bnd x (i + 1) (end - (i + 1)))
      pass_later = rw (one_more, add-one i) (later_by ops i (end - suc i) x p q (eqb kind 2) refl)

-- two ops, a plain character and a kern
pub pass_two : (ops : List ℤ) (i end : ℕ) → end - i ≡ 2 → {kind value next : ℕ} → Word (op_kind ops i) kind → Word (op_value ops i) value →
    Word (op_kind ops (i + 1)) next → kind ≡ 0 → next ≡ 2 →
    (x : Item) (left : ℕ) → left < 2 ^ 32 → op_passes left 0 value ≡ ops_pass ops (left_by left) x i (end - i)
pass_two ops i end d {value = value} p q k e f x left l =
    let t : ops_pass ops bnd x (i + 1) (end - (i + 1)) ≡ true =
    pass_kern ops (i + 1) end (omega arith) k x bnd f ∙ none_pass ops (i + 1 + 1) end bnd x (omega arith) in
    sym (pass_character ops i end (omega arith) p x q left l (omega arith) ∙ rw (t, e) (both_true (op_passes left 0 value)))
