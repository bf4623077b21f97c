-- A property applied: what stands after it.
-- Assumes nothing.
use mathlib.Core.Path.{◌≡◌, refl, sym, ap, ◌∙◌}
use mathlib.Core.Bool.{Bool, true, false, cond}
use mathlib.Core.List.{List, [], ◌∷◌, ◌++◌}
use mathlib.Core.Option.{Option, none, some}
use Prim.Native.Nat.{ℕ, suc, ◌+◌, ◌-◌, ◌*◌, ◌%◌, ◌<◌, ◌≤◌}
use native.Mathlib.Omega.{arith}
use lib.IntN.{ℤ, pos, negsuc}
use lib.Dec.{eqb, leb}
use lib.ListN.{length, set, length-append, length-set}
use lib.Seq.{sets}
use Rattle.words.specs.Words.{number_of}
use Rattle.lang.specs.Every.{both}
use Rattle.lang.proofs.Every.{both_left, both_right}
use Rattle.property_lists.specs.declared.Property.TheVariants as property
use Rattle.property_lists.specs.declared.Progress.{Progress}
use Rattle.property_lists.specs.ListReading.{ListRead, reading_by, progress_by, at_stage, bounded}
use Rattle.property_lists.specs.ListReading.{table_opened, table_closed, at_least, may_label, labelled_at, label_set}
use Rattle.property_lists.specs.ListReading.{may_end, ended_at, next_set, stepped_at, stepped, with_now, applied}
use Rattle.std.specs.Prelude.{Option as Answer, Some, None}
use Rattle.pl_progress.specs.Changes.{changed_to}
use Rattle.pl_apply.specs.Standing.{overlay, ChangesBy, Stands, StandsAt, Follows, on, stuck}
use Rattle.pl_apply.proofs.Laws.{overlay_more, overlay_set}

-- four numbers more
four_more : (xs d : List ℤ) (a b c e : ℤ) → overlay (xs ++ (a ∷ b ∷ c ∷ e ∷ [])) d ≡ sets (overlay xs d) (length xs) (a ∷ b ∷ c ∷ e ∷ [])
unfolding overlay
four_more [] [] a b c e = refl
four_more [] (y ∷ []) a b c e = refl
four_more [] (y ∷ y₁ ∷ []) a b c e = refl
four_more [] (y ∷ y₁ ∷ y₂ ∷ []) a b c e = refl
four_more [] (y ∷ y₁ ∷ y₂ ∷ y₃ ∷ d) a b c e = refl
four_more (x ∷ xs) [] a b c e = refl
four_more (x ∷ xs) (y ∷ d) a b c e = ap (λ (k : List ℤ). x ∷ k) (four_more xs d a b c e)

-- what a test lets through
module _ (z : List ℤ) (u : Progress) (program labels : List ℤ) {i b : List ℤ} where
  pub arm : (test : Bool) (r : Answer Progress) → changed_to r ≡ cond test (some u) none → (test ≡ true → Stands z (reading_by u program labels) u i b) →
      Follows z (cond test (some (reading_by u program labels)) none) r i b
  arm true (Some t) e f = let p : u ≡ t = cc in rw (← p) (on (record { read = reading_by u program labels; is = refl; stands = f refl }))
  arm true None e f = let n : ◌≡◌ {A = ℕ} 0 1 = cc in absurd (omega arith)
  arm false (Some t) e f = let n : ◌≡◌ {A = ℕ} 0 1 = cc in absurd (omega arith)
  arm false None e f = stuck refl

-- another name for what is read
pub follows_is : {z : List ℤ} {o o' : Option ListRead} {r : Answer Progress} {i b : List ℤ} → o ≡ o' → Follows z o' r i b → Follows z o r i b
follows_is e (on st) = on (record { read = st.read; is = e ∙ st.is; stands = st.stands })
follows_is e (stuck k) = stuck (e ∙ k)

with_now_lem : (l : ListRead) (test : Bool) (u : Progress) →
    with_now l (cond test (some u) none) ≡ cond test (some (reading_by u l.program l.labels)) none
with_now_lem l true u = refl
with_now_lem l false u = refl

module _ {z : List ℤ} {l : ListRead} {s : Progress} {i b : List ℤ} (st : Stands z l s i b) where
  -- the lists stay
  kept : (u : Progress) → u.steps ≡ s.steps → u.ending ≡ s.ending → Stands z (reading_by u l.program l.labels) u i b
  kept u e f =
      record {
        now_is = refl;
        stored = st.stored;
        labels_are = st.labels_are;
        fours = st.fours ∙ rw e;
        some_step = λ g. rw e (st.some_step (sym f ∙ g));
      }

  pub arm_comment : Follows z (applied property.Comment l) (Some s) i b
  unfolding applied
  arm_comment = on (record { read = l; is = refl; stands = st })

  by_now : (test : Bool) (u : Progress) (r : Answer Progress) → changed_to r ≡ cond test (some u) none → u.steps ≡ s.steps → u.ending ≡ s.ending →
      Follows z (with_now l (cond test (some u) none)) r i b
  by_now test u r e f g = rw (with_now_lem l test u) (arm z u l.program l.labels test r e (λ _. kept u f g))

  pub arm_boundary : (c : ℕ) (r : Answer Progress) → changed_to r ≡ bounded c s → Follows z (applied (property.Boundary c) l) r i b
  unfolding applied
  arm_boundary c r e =
      follows_is (ap (λ (p : Progress). with_now l (bounded c p)) st.now_is)
      (by_now (eqb s.stage 0) (progress_by 1 c s.steps s.ending s.needed) r e refl refl)

  pub arm_table : (r : Answer Progress) → changed_to r ≡ table_opened s → Follows z (applied property.Table l) r i b
  unfolding applied
  arm_table r e = follows_is (ap (λ (p : Progress). with_now l (table_opened p)) st.now_is) (by_now (leb s.stage 1) (at_stage 2 s) r e refl refl)

  pub arm_closed : (r : Answer Progress) → changed_to r ≡ table_closed s → Follows z (applied property.Closed l) r i b
  unfolding applied
  arm_closed r e = follows_is (ap (λ (p : Progress). with_now l (table_closed p)) st.now_is) (by_now (eqb s.stage 2) (at_stage 3 s) r e refl refl)

  pub arm_ended : Follows z (applied property.Ended l) None i b
  unfolding applied
  arm_ended = stuck refl

  -- a label
  pub arm_label : (c : ℕ) (r : Answer Progress) {b' : List ℤ} → ChangesBy (may_label c s b) (labelled_at s) (label_set c s.steps b) b r b' →
      Follows z (applied (property.Label c) l) r i b'
  unfolding applied
  arm_label c r p =
      rw (st.now_is, ← st.labels_are) (arm z (labelled_at s) l.program (label_set c s.steps b) (may_label c s b) r p.is (λ e.
      record {
        now_is = refl;
        stored = st.stored;
        labels_are = p.list_is ∙ rw e;
        fours = st.fours;
        some_step = λ g. let n : ◌≡◌ {A = ℕ} 0 1 = cc in absurd (omega arith);
      }))

  -- the end of a step
  ended : (needed : ℕ) (next : ℤ) (test : Bool) (r : Answer Progress) {i' : List ℤ} → (test ≡ true → may_end s ≡ true) →
      ChangesBy test (ended_at needed s) (next_set s.steps next i) i r i' →
      Follows z (cond test (some (reading_by (ended_at needed s) (next_set s.steps next l.program) l.labels)) none) r i' b
  ended needed next test r f p =
      arm z (ended_at needed s) (next_set s.steps next l.program) l.labels test r p.is (λ e.
      let some-steps : 1 ≤ s.steps = st.some_step (both_right (eqb s.stage 2) s.ending (f e)) in
      record {
        now_is = refl;
        stored = p.list_is ∙ rw (e, st.stored) (sym (overlay_set l.program z (4 * (s.steps - 1)) next (omega (arith, st.fours))));
        labels_are = st.labels_are;
        fours = length-set l.program (4 * (s.steps - 1)) next ∙ st.fours;
        some_step = λ g. let n : ◌≡◌ {A = ℕ} 0 1 = cc in absurd (omega arith);
      })

  pub arm_stop : (r : Answer Progress) {i' : List ℤ} → ChangesBy (may_end s) (ended_at s.needed s) (next_set s.steps (negsuc 0) i) i r i' →
      Follows z (applied property.Stop l) r i' b
  unfolding applied
  arm_stop r p = rw st.now_is (ended s.needed (negsuc 0) (may_end s) r (λ e. e) p)

  pub arm_skip : (n : ℕ) (r : Answer Progress) {i' : List ℤ} →
      ChangesBy (both (may_end s) (leb n 127)) (ended_at (at_least s.needed (s.steps + n)) s) (next_set s.steps (pos n) i) i r i' →
      Follows z (applied (property.Skip n) l) r i' b
  unfolding applied
  arm_skip n r p =
      rw st.now_is (ended (at_least s.needed (s.steps + n)) (pos n) (both (may_end s) (leb n 127)) r (λ e. both_left (may_end s) (leb n 127) e) p)

  -- one step more
  pub arm_step : (right kind : ℕ) (operand : ℤ) (r : Answer Progress) {i' : List ℤ} →
      ChangesBy (eqb s.stage 2) (stepped_at s) (sets i (4 * s.steps) (pos 0 ∷ pos (right % 256) ∷ pos kind ∷ operand ∷ [])) i r i' →
      Follows z (stepped right kind operand l) r i' b
  arm_step right kind operand r p =
      let step = pos 0 ∷ pos (right % 256) ∷ pos kind ∷ operand ∷ [] in
      rw st.now_is (arm z (stepped_at s) (l.program ++ step) l.labels (eqb s.stage 2) r p.is (λ e.
      record {
        now_is = refl;
        stored = p.list_is ∙ rw (e, st.stored, ← st.fours) (sym (four_more l.program z (pos 0) (pos (right % 256)) (pos kind) operand));
        labels_are = st.labels_are;
        fours = length-append l.program step ∙ omega (arith, st.fours);
        some_step = λ g. omega arith;
      }))
