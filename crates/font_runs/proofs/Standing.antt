-- Where the free states of a run stand, in a font that fits: every letter read was given, but for a next character.
-- Assumes nothing.
use mathlib.Core.Path.{◌≡◌, refl, sym, ap, subst, ◌∙◌}
use mathlib.Core.Bool.{Bool, true, false, cond, not}
use mathlib.Core.List.{List}
use mathlib.Core.Option.{Option, some}
use Prim.Native.Nat.{ℕ, suc, ◌+◌, ◌-◌, ◌<◌}
use native.Mathlib.Omega.{arith}
use lib.IntN.{ℤ}
use lib.Dec.{eqb}
use lib.ListN.{length, get_or}
use borrow.Author.Tests.{eqb-true, ltb-true}
use Rattle.words.specs.Words.{word_of}
use Rattle.lang.specs.Every.{both}
use Rattle.lang.specs.Records.{within}
use Rattle.lang.proofs.Every.{both_left, both_right}
use Rattle.reading.specs.Items.{item}
use Rattle.captions.specs.declared.RunOptions.{RunOptions}
use Rattle.captions.specs.declared.NextLeft.{NextLeft}
use Rattle.captions.specs.declared.NextLeft.TheVariants as next
use Rattle.captions.specs.declared.State.{State}
use Rattle.captions.specs.Tables.{number, key_by, count_of, last_code, last_flag, ops_from, record_fits}
use Rattle.captions.specs.Steps.{left_letters, after_right, find_within, entered_at, gives_nothing}
use Rattle.captions.proofs.Finding.{find_inside}
use Rattle.captions.proofs.Beyond.{within_some}
use Rattle.captions.proofs.Sound.{Sound, ops_of, is_ligature, waiting}
use Rattle.captions.proofs.Turning.{clear}
use Rattle.captions.proofs.Lettered.{Lettered, Own}
use Rattle.font_runs.specs.Requests.{LentFont}
use Rattle.font_runs.specs.Changes.{left_free, free_state, right_in, first_free}
use Rattle.font_runs.specs.Shift.{RunStandsAt}
use Rattle.font_runs.proofs.Passing.{first_cases}

no : {A : Type 0} → ◌≡◌ {A = Bool} false true → A
no e = absurd (let z : ◌≡◌ {A = ℕ} 0 1 = cc in omega arith)

module _ (pairs ops : List ℤ) (right : Option ℕ) (word : List ℕ) where
  -- nothing is pending or to be taken in, where no op is to be given
  settled : (s : State) → s.ops ≡ 0 → is_ligature s.next_left ≡ false → Sound ops word s (ops_of ops word s) →
      s.pending + left_letters s.consumes_left ≡ 0
  unfolding ops_from
  settled s z e h = clear s.pending s.consumes_left s.next_left e (rw z at h.holds)

  by_next : (s : State) (x : NextLeft) → s.next_left ≡ x → s.ops ≡ 0 → left_free pairs right word s.read x ≡ true →
      Sound ops word s (ops_of ops word s) → Own word s.read x → RunStandsAt word s.given s.read x
  by_next s next.Boundary e z f h o =
      let c : s.given + (s.pending + left_letters s.consumes_left) + 0 ≡ s.read =
      subst (λ (x : NextLeft). s.given + (s.pending + left_letters s.consumes_left) + waiting x ≡ s.read) e h.counted in
      let q = settled s z (ap is_ligature e) h in
      (omega (arith, c, q), omega (arith, c, q, h.inside))
  by_next s (next.Char d) e z f h o =
      let c : s.given + (s.pending + left_letters s.consumes_left) + 1 ≡ s.read =
      subst (λ (x : NextLeft). s.given + (s.pending + left_letters s.consumes_left) + waiting x ≡ s.read) e h.counted in
      let q = settled s z (ap is_ligature e) h in
      let g : s.read - 1 ≡ s.given = omega (arith, c, q) in
      (omega (arith, c, q), omega (arith, c, q, h.inside), ap (λ (i : ℕ). get_or word i 0) (sym g) ∙ o)
  by_next s (next.Lig d) e z f h o = no f
  by_next s (next.FinalLig d) e z f h o = no f
  by_next s next.None e z f h o = no f

  -- a free state of a run
  stands_free : (s : State) → free_state pairs right word s ≡ true → Sound ops word s (ops_of ops word s) → Lettered ops word s (ops_of ops word s) →
      RunStandsAt word s.given s.read s.next_left
  stands_free s f h l =
      let a = both_left (eqb s.ops 0) _ f in
      let b = both_right (eqb s.pending 0) _ (both_right (eqb s.ops 0) _ f) in
      by_next s s.next_left refl (eqb-true s.ops 0 a) b h l.own

  -- ---- past a left boundary whose entry gives nothing

  unflagged : (z f : Bool) → both z (not f) ≡ true → f ≡ false
  unflagged true true e = no e
  unflagged true false e = refl
  unflagged false f e = no e

  -- an unflagged last is the right of its pair, and that is the letter that was looked up
  last_is : (k y : ℕ) → find_within pairs 0 y ≡ some k → record_fits pairs ops k ≡ true → last_flag pairs k ≡ false → last_code pairs k ≡ y
  last_is k y w r u =
      let q = within_some pairs 0 y k w in
      let i = (find_inside pairs (key_by 0 y) k q.1).1 in
      let c = both_left (cond (last_flag pairs k) true (eqb (last_code pairs k) (word_of (number pairs k 1)))) _
      (both_right (within 1 (number pairs k 3)) _ (both_right (within 255 (number pairs k 2)) _ r)) in
      let d : eqb (last_code pairs k) (word_of (number pairs k 1)) ≡ true =
      sym (ap (λ (b : Bool). cond b true (eqb (last_code pairs k) (word_of (number pairs k 1)))) u) ∙ c in
      eqb-true (last_code pairs k) (word_of (number pairs k 1)) d ∙ omega (arith, i, q.0)

  module _ (s : State) (h : Sound ops word s (ops_of ops word s)) (l : Lettered ops word s (ops_of ops word s)) where
    abbrev Stood : State → Type 0
    Stood t = free_state pairs right word t ≡ true → RunStandsAt word t.given t.read t.next_left

    itself : Stood s
    itself f = stands_free s f h l

    past : (k : ℕ) → s.next_left ≡ next.Boundary → s.ops ≡ 0 → s.read < length word → find_within pairs 0 (get_or word s.read 0) ≡ some k →
        record_fits pairs ops k ≡ true → gives_nothing pairs k ≡ true → Stood (entered_at pairs next.Boundary true s k)
    past k e z i w r n f =
        let u = unflagged (eqb (count_of pairs k) 0) (last_flag pairs k) n in
        let c : s.given + (s.pending + left_letters s.consumes_left) + 0 ≡ s.read =
        subst (λ (x : NextLeft). s.given + (s.pending + left_letters s.consumes_left) + waiting x ≡ s.read) e h.counted in
        let q = settled s z (ap is_ligature e) h in
        let g : s.read ≡ s.given = omega (arith, c, q) in
        let a : next.Char (last_code pairs k) ≡ (entered_at pairs next.Boundary true s k).next_left =
        ap (λ (b : Bool). after_right true (item b (last_code pairs k))) (sym u) in
        subst (RunStandsAt word s.given (suc s.read)) a
        (ap suc g, omega (arith, g, i), ap (λ (j : ℕ). get_or word j 0) (sym g) ∙ sym (last_is k (get_or word s.read 0) w r u))

-- the first free state of a step
module _ (font : LentFont) (word : List ℕ) (options : RunOptions) (s : State) (h : Sound font.ops word s (ops_of font.ops word s))
    (l : Lettered font.ops word s (ops_of font.ops word s)) where
  pub stands_first : (u : State) → first_free font word options s ≡ some u → RunStandsAt word u.given u.read u.next_left
  stands_first =
      first_cases font word options s (λ u. RunStandsAt word u.given u.read u.next_left)
      (itself font.pairs font.ops (right_in font options) word s h l)
      (λ k e z i. past font.pairs font.ops (right_in font options) word s h l k e z (ltb-true s.read (length word) i))
