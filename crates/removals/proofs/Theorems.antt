-- What the answers mean, and that the room of a run is enough (specs/Purpose).
-- Assumes nothing.
use mathlib.Core.Path.{◌≡◌, refl, sym, ap, subst, ◌∙◌}
use mathlib.Core.Bool.{Bool, true, false, cond}
use mathlib.Core.List.{List}
use mathlib.Core.Logic.{◌↔◌, ◌⊎◌, inl, inr}
use Prim.Native.Nat.{ℕ, zero, suc, ◌<◌, ◌≤◌}
use native.Mathlib.Nat.{eq-or-lt_of_le, le_of_suc-le-suc}
use native.Mathlib.Omega.{arith}
use lib.Dec.{eqb}
use borrow.Author.Tests.{eqb-true}
use Rattle.lang.specs.Records.{count}
use Rattle.fonts.specs.Fonts.{Font}
use Rattle.fonts.specs.Compiled.{Room, sized_refusal}
use Rattle.captions.specs.declared.RunOptions.{RunOptions}
use Rattle.removals.specs.declared.Blamed.{Blamed}
use Rattle.removals.specs.declared.Blamed.TheVariants.{At, Nothing, Refused}
use Rattle.removals.specs.Removed.{font_without}
use Rattle.removals.specs.Items.{font_items, same_items}
use Rattle.removals.specs.Search.{removal_answer, answer_without, or_next, first_answer, blame_refusal, blamed_by, blamed_of}
use Rattle.removals.specs.Purpose.{SameIn, Unaltered, Altered, loops, differs, NothingMeans, AtMeans, RoomForAll}
use Rattle.removals.proofs.Lessening.{room_for_all}
use Rattle.removals.proofs.SameItems.{same_holds, same_is}

no : {A : Type 0} → ◌≡◌ {A = ℕ} 0 1 → A
no e = absurd (omega (arith, e))

-- ---- one removal

-- what its answer says of its number and its items
none_by : (i n : ℕ) (same : Bool) → removal_answer i n same ≡ Nothing → (n ≡ 0) × (same ≡ true)
none_by i zero true e = (refl, refl)
none_by i zero false e = no cc
none_by i (suc n) same e = no (go (eqb n 14) e)
  where
    go : (b : Bool) → cond b (At i) (Refused (suc n)) ≡ Nothing → ◌≡◌ {A = ℕ} 0 1
    go true h = cc
    go false h = cc

at_by : (i n : ℕ) (same : Bool) (k : ℕ) → removal_answer i n same ≡ At k → (k ≡ i) × ((n ≡ 15) ⊎ ((n ≡ 0) × (same ≡ false)))
at_by i zero true k e = no cc
at_by i zero false k e = (cc, inr (refl, refl))
at_by i (suc n) same k e = go (eqb n 14) refl e
  where
    go : (b : Bool) → eqb n 14 ≡ b → cond b (At i) (Refused (suc n)) ≡ At k → (k ≡ i) × ((suc n ≡ 15) ⊎ ((suc n ≡ 0) × (same ≡ false)))
    go true q h = (cc, inl (ap suc (eqb-true n 14 q)))
    go false q h = no cc

none_is : (i n : ℕ) (same : Bool) → n ≡ 0 → same ≡ true → removal_answer i n same ≡ Nothing
none_is i n same e f = rw (e, f)

-- ---- the first answer of several

module _ (answer : ℕ → Blamed) where
  next_nothing : (x y : Blamed) → or_next x y ≡ Nothing → (x ≡ Nothing) × (y ≡ Nothing)
  next_nothing (At i) y e = no cc
  next_nothing Nothing y e = (refl, e)
  next_nothing (Refused n) y e = no cc

  all_by : (n i : ℕ) → answer n ≡ Nothing → (i < n → answer i ≡ Nothing) → (i ≡ n) ⊎ (i < n) → answer i ≡ Nothing
  all_by n i h k (inl q) = ap answer q ∙ h
  all_by n i h k (inr l) = k l

  all_nothing : (n : ℕ) → first_answer answer n ≡ Nothing → (i : ℕ) → i < n → answer i ≡ Nothing
  unfolding first_answer
  all_nothing zero e i h = absurd (omega arith)
  all_nothing (suc n) e i h =
      let q = next_nothing (first_answer answer n) (answer n) e in
      all_by n i q.1 (all_nothing n q.0 i) (eq-or-lt_of_le (le_of_suc-le-suc h))

  nothing_all : (n : ℕ) → ((i : ℕ) → i < n → answer i ≡ Nothing) → first_answer answer n ≡ Nothing
  unfolding first_answer
  nothing_all zero h = refl
  nothing_all (suc n) h = rw (nothing_all n (λ i l. h i (omega (arith, l)))) (h n (omega arith))

  -- an instruction is answered by one removal, and none below that answers
  first_by : (n i : ℕ) (x : Blamed) → first_answer answer n ≡ x → or_next x (answer n) ≡ At i →
      (first_answer answer n ≡ At i → (j : ℕ) × (answer j ≡ At i) × (j < n) × ((k : ℕ) → k < j → answer k ≡ Nothing)) →
      (j : ℕ) × (answer j ≡ At i) × (j < suc n) × ((k : ℕ) → k < j → answer k ≡ Nothing)
  first_by n i (At m) f e go = let g = go (f ∙ e) in (g.0, g.1, omega (arith, g.2), g.3)
  first_by n i Nothing f e go = (n, e, omega arith, all_nothing n f)
  first_by n i (Refused m) f e go = no cc

  first_at : (n i : ℕ) → first_answer answer n ≡ At i → (j : ℕ) × (answer j ≡ At i) × (j < n) × ((k : ℕ) → k < j → answer k ≡ Nothing)
  unfolding first_answer
  first_at zero i e = no cc
  first_at (suc n) i e = first_by n i (first_answer answer n) refl e (first_at n i)

-- ---- the theorems

module _ (f : Font) (room : Room) (size : ℕ) (word : List ℕ) (options : RunOptions) where
  abbrev number : ℕ → ℕ
  number i = sized_refusal (font_without f i) room size

  abbrev same : ℕ → Bool
  same i = same_items (font_items f word options) (font_items (font_without f i) word options)

  same_in : (i : ℕ) → same i ≡ true → SameIn f (font_without f i) word options
  same_in i e =
      let h = same_holds (font_items f word options) (font_items (font_without f i) word options) e in
      record { first_ends = h.first; second_ends = h.second; numbers = h.values }

  in_same : (i : ℕ) → SameIn f (font_without f i) word options → same i ≡ true
  in_same i h =
      same_is (font_items f word options) (font_items (font_without f i) word options)
      (record { first = h.first_ends; second = h.second_ends; values = h.numbers })

  unaltered : (i : ℕ) → answer_without f room size word options i ≡ Nothing → Unaltered f room size word options i
  unaltered i e = let h = none_by i (number i) (same i) e in record { compiles = h.0; same = same_in i h.1 }

  altered_by : (i : ℕ) → ((number i ≡ 15) ⊎ ((number i ≡ 0) × (same i ≡ false))) → Altered f room size word options i
  altered_by i (inl e) = loops e
  altered_by i (inr h) = differs h.0 (λ s. let e : ◌≡◌ {A = Bool} false true = sym h.1 ∙ in_same i s in let z : ◌≡◌ {A = ℕ} 0 1 = cc in omega arith)

  taken_as : (edited : ℕ) → blame_refusal f room size word options edited ≡ 0 →
      blamed_of f room size word options edited ≡ first_answer (answer_without f room size word options) (count f.instructions)
  taken_as edited z = rw z

pub nothing_means : NothingMeans
nothing_means f room size word options edited z = (
  λ e i l. unaltered f room size word options i
      (all_nothing (answer_without f room size word options) (count f.instructions) (sym (taken_as f room size word options edited z) ∙ e) i l),
  λ h. taken_as f room size word options edited z
      ∙ nothing_all (answer_without f room size word options) (count f.instructions)
      (λ i l. none_is i (sized_refusal (font_without f i) room size) _ (h i l).compiles (in_same f room size word options i (h i l).same)),
)

pub at_means : AtMeans
at_means f room size word options edited i z e =
    let answers = answer_without f room size word options in
    let g = first_at answers (count f.instructions) i (sym (taken_as f room size word options edited z) ∙ e) in
    let a = at_by g.0 (sized_refusal (font_without f g.0) room size) (same f room size word options g.0) i g.1 in
    let q : g.0 ≡ i = sym a.0 in (
      subst (λ (k : ℕ). k < count f.instructions) q g.2,
      subst (λ (k : ℕ). Altered f room size word options k) q (altered_by f room size word options g.0 a.1),
      λ j l. unaltered f room size word options j (g.3 j (omega (arith, l, q))),
    )

pub room_enough : RoomForAll
room_enough pairs ops boundary word options n s h = room_for_all pairs ops boundary word options n s h
