-- What a rule does, as numbers, is what takes the place of the two at the cursor.
-- Assumes nothing.
use mathlib.Core.Path.{◌≡◌, refl, sym, ap, ◌∙◌, subst}
use mathlib.Core.Bool.{Bool, true, false}
use mathlib.Core.List.{List, [], ◌∷◌, ◌++◌, append-nil}
use Prim.Native.Nat.{ℕ, ◌-◌, ◌<◌, ◌≤◌, min}
use native.Mathlib.Omega.{arith}
use lib.IntN.{ℤ, pos}
use Rattle.words.specs.Words.{number_of}
use Rattle.words.proofs.Bits.{number_pos}
use Rattle.lang.specs.declared.operation.PostLigOperation.{PostLigOperation}
use Rattle.lang.specs.declared.operation.PostLigOperation.TheVariants.{RetainBothMoveNowhere, RetainBothMoveToInserted}
use Rattle.lang.specs.declared.operation.PostLigOperation.TheVariants.{RetainBothMoveToRight, RetainRightMoveToInserted}
use Rattle.lang.specs.declared.operation.PostLigOperation.TheVariants.{RetainRightMoveToRight, RetainLeftMoveNowhere}
use Rattle.lang.specs.declared.operation.PostLigOperation.TheVariants.{RetainLeftMoveToInserted, RetainNeitherMoveToInserted}
use Rattle.reading.specs.Items.{Rule, free, kerned, lig}
use Rattle.readings.specs.Lists.{replaced_by}
use Rattle.read_rule.specs.declared.PairRule.{PairRule}
use Rattle.read_rule.specs.declared.PairRule.TheVariants as Answer
use Rattle.read_rule.specs.Meant.{meant}
use Rattle.read_change.specs.declared.Change.{Change}
use Rattle.read_change.specs.Changes.{retains_left, retains_right, passes, left_of_rule, right_of_rule}
use Rattle.read_change.specs.Changes.{advance_of_rule, kind_of_rule, value_of_rule, change_of, Retains}
use Rattle.read_change.specs.Changes.{finished_by, changed_numbers, ChangesAs}

-- ---- the functions on a rule

pub retains_free : (x : PairRule) (r : Change) → x ≡ Answer.Free → r ≡ change_of 1 1 1 0 0 → Retains (meant x) r
retains_free x r e h = rw (e, h) (record { left = refl; right = refl; advance = refl; kind = refl; value = refl })

pub retains_kern : (x : PairRule) (r : Change) (w : ℕ) → x ≡ Answer.Kern w → r ≡ change_of 1 1 2 2 w → Retains (meant x) r
retains_kern x r w e h = rw (e, h) (record { left = refl; right = refl; advance = refl; kind = refl; value = refl })

pub retains_ligature : (x : PairRule) (r : Change) (p : PostLigOperation) (c i j k : ℕ) → x ≡ Answer.Ligature p c → c < 256 → i ≡ retains_left p →
    j ≡ retains_right p → k ≡ passes p → r ≡ change_of i j k 1 c → Retains (meant x) r
retains_ligature x r p c i j k e small a b d h =
    rw (e, h) (record { left = a; right = b; advance = d; kind = refl; value = number_pos c (omega arith) })

pub finished_boundary : (b : Bool) (x r : Change) (gone : ℕ) → b ≡ true → gone ≡ min x.left x.advance →
    r ≡ change_of (x.left - gone) x.right (x.advance - gone) x.kind x.value → r ≡ finished_by b x
finished_boundary b x r gone e g h = h ∙ rw (e, g)

-- ---- what takes the place of two items

-- the change of a rule, by the bits of its value
abbrev change_by : Rule → ℕ → Change
change_by rule w = change_of (left_of_rule rule) (right_of_rule rule) (advance_of_rule rule) (kind_of_rule rule) w

module _ (w : ℕ) (x y : List ℤ) where
  -- what takes their place, and how far the cursor moves
  abbrev Same : Rule → Bool → Type 0
  Same rule b =
      ((replaced_by rule b x y).numbers ≡ changed_numbers (finished_by b (change_by rule w)) x y)
      × ((replaced_by rule b x y).moves ≡ (finished_by b (change_by rule w)).advance)

  same : (rule : Rule) (b : Bool) → number_of w ≡ value_of_rule rule → Same rule b
  same free true v = (refl, refl)
  same free false v = (sym (ap (λ (t : List ℤ). t ++ y) (append-nil x)), refl)
  same (kerned k) true v = (rw v, refl)
  same (kerned k) false v = (rw v, refl)
  same (lig RetainNeitherMoveToInserted c) true v = (rw v, refl)
  same (lig RetainNeitherMoveToInserted c) false v = (rw v, refl)
  same (lig RetainRightMoveToInserted c) true v = (rw v, refl)
  same (lig RetainRightMoveToInserted c) false v = (rw v, refl)
  same (lig RetainLeftMoveNowhere c) true v = (rw v (sym (append-nil (x ++ (pos 1 ∷ pos c ∷ [])))), refl)
  same (lig RetainLeftMoveNowhere c) false v = (rw v (sym (append-nil (x ++ (pos 1 ∷ pos c ∷ [])))), refl)
  same (lig RetainBothMoveNowhere c) true v = (rw v, refl)
  same (lig RetainBothMoveNowhere c) false v = (rw v, refl)
  same (lig RetainRightMoveToRight c) true v = (rw v, refl)
  same (lig RetainRightMoveToRight c) false v = (rw v, refl)
  same (lig RetainLeftMoveToInserted c) true v = (rw v, refl)
  same (lig RetainLeftMoveToInserted c) false v = (rw v (sym (append-nil (x ++ (pos 1 ∷ pos c ∷ [])))), refl)
  same (lig RetainBothMoveToInserted c) true v = (rw v, refl)
  same (lig RetainBothMoveToInserted c) false v = (rw v, refl)
  same (lig RetainBothMoveToRight c) true v = (rw v, refl)
  same (lig RetainBothMoveToRight c) false v = (rw v, refl)

-- its numbers are small
abbrev Small : Change → Type 0
Small r = (r.left ≤ 1) × (r.right ≤ 1) × (r.kind ≤ 2) × (r.advance ≤ 2)

small : (rule : Rule) (w : ℕ) → Small (change_by rule w)
small free w = omega arith
small (kerned k) w = omega arith
small (lig RetainNeitherMoveToInserted c) w = omega arith
small (lig RetainRightMoveToInserted c) w = omega arith
small (lig RetainLeftMoveNowhere c) w = omega arith
small (lig RetainBothMoveNowhere c) w = omega arith
small (lig RetainRightMoveToRight c) w = omega arith
small (lig RetainLeftMoveToInserted c) w = omega arith
small (lig RetainBothMoveToInserted c) w = omega arith
small (lig RetainBothMoveToRight c) w = omega arith

small_finished : (b : Bool) (r : Change) → Small r → Small (finished_by b r)
small_finished false r h = h
small_finished true r h = omega (arith, h)

changes_by : (rule : Rule) (b : Bool) (x y : List ℤ) (w : ℕ) → number_of w ≡ value_of_rule rule →
    ChangesAs (replaced_by rule b x y) x y (finished_by b (change_by rule w))
changes_by rule b x y w v =
    let s = same w x y rule b v in
    let t = small_finished b (change_by rule w) (small rule w) in
    record { numbers = s.0; moves = s.1; left = t.0; right = t.1; kind = t.2; advance = t.3 }

pub changes_as : (rule : Rule) (b : Bool) (x y : List ℤ) (r r' : Change) → Retains rule r → r' ≡ finished_by b r → ChangesAs (replaced_by rule b x y) x y r'
changes_as rule b x y r r' q h =
    let e : change_by rule r.value ≡ r = λ i. change_of (sym q.left i) (sym q.right i) (sym q.advance i) (sym q.kind i) r.value in
    subst (ChangesAs (replaced_by rule b x y) x y) (ap (finished_by b) e ∙ sym h) (changes_by rule b x y r.value q.value)
