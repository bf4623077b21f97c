-- The contract of one step, from what each way answers: refused with 7 or 15, ended, or the items that then stand.
-- Assumes nothing.
use mathlib.Core.Path.{◌≡◌, refl, sym, ap, ◌∙◌, subst}
use mathlib.Core.Bool.{Bool, true, false, cond}
use mathlib.Core.List.{List, [], ◌∷◌, ◌++◌}
use Prim.Native.Nat.{ℕ, zero, suc, ◌+◌, ◌-◌, ◌*◌, ◌/◌, ◌%◌, ◌<◌, ◌≤◌}
use native.Mathlib.Omega.{arith}
use lib.IntN.{ℤ, pos}
use lib.Dec.{leb, ltb, eqb}
use lib.ListN.{length, get_or, take, drop, replicate}
use borrow.Author.Tests.{lt-ltb, le-leb, lt-leb, ltb-true, leb-true}
use Rattle.words.specs.Words.{word_of, Word}
use Rattle.lang.specs.Answers.{reply_of, room_refusal, padded, list_of}
use Rattle.lang.specs.Every.{both}
use Rattle.lang.proofs.Every.{both_left, both_right}
use Rattle.lang.proofs.Refusals.{room_is, room_short, refused_reply, taken_reply}
use Rattle.lang.proofs.Filled.{refused_list}
use Rattle.reading.specs.Items.{Rule, Rules}
use Rattle.readings.specs.declared.OneStep.{OneStep}
use Rattle.readings.specs.declared.OneStep.TheVariants as Answer
use Rattle.readings.specs.Lists.{Replaced, replaced_by, stand_item, replaced_at, next_items, has_ended, standing_refusal, one_step_refusal}
use Rattle.readings.specs.Lists.{stepped_reply, stepped_values, StepsOnce}
use Rattle.read_rule.specs.Meant.{left_as}
use Rattle.read_change.specs.declared.Change.{Change}
use Rattle.read_change.specs.Changes.{inserts_of, ChangesAs}
use Rattle.read_change.specs.Fitted.{fitted, without}
use Rattle.read_step.specs.Changed.{count_after, changed_items}
use Rattle.read_step.proofs.Changing.{cleared, long_changed}

-- the change at a cursor, by the words that were read there
pub changes_at : (rule : Rules) (items : List ℤ) (cursor k v u : ℕ) (m : Rule) (r : Change) → Word (get_or items (2 * cursor) (pos 0)) k →
    Word (get_or items (2 * cursor + 1) (pos 0)) v → Word (get_or items (2 * cursor + 3) (pos 0)) u → m ≡ rule (left_as (eqb k 3) (v % 256)) (u % 256) →
    ChangesAs (replaced_by m (eqb k 3) (stand_item items cursor) (stand_item items (suc cursor))) (stand_item items cursor) (stand_item items (suc cursor)) r →
    ChangesAs (replaced_at rule items cursor) (stand_item items cursor) (stand_item items (suc cursor)) r
changes_at rule items cursor k v u m r a b c e q =
    let x = stand_item items cursor in
    let y = stand_item items (suc cursor) in
    let n : 2 * cursor + 3 ≡ 2 * suc cursor + 1 = omega arith in
    let d : u ≡ word_of (get_or items (2 * suc cursor + 1) (pos 0)) = c.is ∙ ap (λ (i : ℕ). word_of (get_or items i (pos 0))) n in
    let g : replaced_by m (eqb k 3) x y ≡ replaced_at rule items cursor =
    ap (λ (z : Rule). replaced_by z (eqb k 3) x y) e
    ∙ (λ i. replaced_by (rule (left_as (eqb (a.is i) 3) (b.is i % 256)) (d i % 256)) (eqb (a.is i) 3) x y) in
    subst (λ (z : Replaced). ChangesAs z x y r) g q

-- how many items stand after a change, by its kind
pub count_less : (count : ℕ) (r : Change) → r.kind ≡ 0 → count - 2 + r.left + r.right ≡ count_after count r
count_less count r e = rw e (omega arith)

pub count_more : (count : ℕ) (r : Change) → (r.kind ≡ 0 → ⊥) → 2 ≤ count → count - 1 + r.left + r.right ≡ count_after count r
count_more count r e h = by r.kind e
  where
    by : (k : ℕ) → (k ≡ 0 → ⊥) → count - 1 + r.left + r.right ≡ count - 2 + r.left + r.right + inserts_of k
    by zero e = absurd (e refl)
    by (suc k) e = omega arith

-- what is known where the items stand
pub standing_known : (b : Bool) (l : List ℤ) (count cursor : ℕ) → b ≡ both (ltb cursor count) (leb count (length l / 2)) → b ≡ true →
    (cursor < count) × (count ≤ length l / 2)
standing_known b l count cursor e h =
    let g = sym e ∙ h in (
      ltb-true cursor count (both_left (ltb cursor count) (leb count (length l / 2)) g),
      leb-true count (length l / 2) (both_right (ltb cursor count) (leb count (length l / 2)) g),
    )

module _ (rule : Rules) (l : List ℤ) (count cursor : ℕ) (l' : List ℤ) where
  -- the items after the step, or those that stay
  abbrev items : List ℤ
  items = cond (has_ended count cursor) (take (2 * count) l) (next_items rule l count cursor)

  refused : (n : ℕ) → one_step_refusal rule l count cursor ≡ suc n → l' ≡ replicate (length l) (pos 0) →
      StepsOnce rule l count cursor (Answer.Refused (suc n)) l'
  refused n z h = record {
    answer = refused_reply (stepped_values rule l count cursor) (sym z) (λ q. omega (arith, q));
    list = refused_list (pos 0) (length l) items (sym z) (λ q. omega (arith, q)) h;
  }

  taken : (r : OneStep) (vs xs : List ℤ) → stepped_reply r ≡ reply_of 0 vs → one_step_refusal rule l count cursor ≡ 0 → vs ≡ stepped_values rule l count cursor →
      xs ≡ items → l' ≡ padded (pos 0) (length l) xs → StepsOnce rule l count cursor r l'
  taken r vs xs a z v x h = record {
    answer = a ∙ ap (reply_of 0) v ∙ taken_reply (stepped_values rule l count cursor) z;
    list = h ∙ ap (padded (pos 0) (length l)) x ∙ (λ i. list_of (sym z i) (pos 0) (length l) items);
  }

  pub not_standing : (b : Bool) → b ≡ both (ltb cursor count) (leb count (length l / 2)) → b ≡ false → l' ≡ replicate (length l) (pos 0) →
      StepsOnce rule l count cursor (Answer.Refused 7) l'
  not_standing b e g h = refused 6 (rw (sym e ∙ g)) h

  module _ (h : cursor < count) (k : count ≤ length l / 2) where
    standing_none : standing_refusal l count cursor ≡ 0
    standing_none = rw (lt-ltb cursor count h, le-leb count (length l / 2) k)

    pub ended : count ≤ cursor + 1 → l' ≡ fitted (length l) (without (2 * count) (length l - 2 * count) l) → StepsOnce rule l count cursor Answer.Ended l'
    ended n e =
        let t : has_ended count cursor ≡ true = le-leb count (suc cursor) (omega arith) in
        taken Answer.Ended [] (take (2 * count) l) refl (rw (standing_none, t)) (rw t) (rw t) (e ∙ cleared l (2 * count) (omega arith))

    module _ (n : cursor + 1 < count) (r : Change) (q : ChangesAs (replaced_at rule l cursor) (stand_item l cursor) (stand_item l (suc cursor)) r) where
      goes_on : has_ended count cursor ≡ false
      goes_on = lt-leb count (suc cursor) (omega arith)

      next_is : next_items rule l count cursor ≡ changed_items r l count cursor
      next_is = ap (λ (t : List ℤ). take (2 * cursor) l ++ t ++ drop (2 * (cursor + 2)) (take (2 * count) l)) q.numbers

      long-next : length (next_items rule l count cursor) ≡ 2 * count_after count r
      long-next = ap length next_is ∙ long_changed r l count cursor (omega arith) (omega arith) q.left q.right

      refusal_is : one_step_refusal rule l count cursor ≡ room_refusal (2 * count_after count r) (length l)
      refusal_is = rw (standing_none, goes_on, long-next)

      pub too_long : (m : ℕ) → m ≡ count_after count r → length l / 2 < m → l' ≡ replicate (length l) (pos 0) →
          StepsOnce rule l count cursor (Answer.Refused 15) l'
      too_long m e g z = refused 14 (refusal_is ∙ room_short (2 * count_after count r) (length l) (omega arith)) z

      pub stepped : (m : ℕ) → m ≡ count_after count r → m ≤ length l / 2 → l' ≡ padded (pos 0) (length l) (changed_items r l count cursor) →
          StepsOnce rule l count cursor (Answer.Standing m (cursor + r.advance)) l'
      stepped m e g z =
          let a : m ≡ length (next_items rule l count cursor) / 2 = omega (arith, long-next) in
          let b : r.advance ≡ (replaced_at rule l cursor).moves = sym q.moves in
          taken (Answer.Standing m (cursor + r.advance)) (pos m ∷ pos (cursor + r.advance) ∷ []) (changed_items r l count cursor) refl
          (refusal_is ∙ room_is (2 * count_after count r) (length l) (omega arith))
          (rw goes_on (λ i. pos (a i) ∷ pos (cursor + b i) ∷ [])) (rw goes_on (sym next_is)) z
