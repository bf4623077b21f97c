-- The answer.
-- Assumes nothing.
use mathlib.Core.Path.{◌≡◌, refl, sym, ap, ◌∙◌}
use mathlib.Core.Bool.{Bool, true, false, cond}
use mathlib.Core.List.{List, [], ◌∷◌, ◌++◌}
use mathlib.Core.Option.{Option, none, some}
use Prim.Native.Nat.{ℕ, zero, suc, ◌+◌, ◌-◌, ◌*◌, ◌/◌, ◌<◌, ◌≤◌}
use native.Mathlib.Omega.{arith}
use lib.IntN.{ℤ, pos}
use lib.Dec.{leb}
use lib.ListN.{length, get_or, drop, set, replicate, length-replicate}
use borrow.Author.Tests.{leb-true, le-leb}
use Rattle.words.specs.Words.{number_of}
use Rattle.words.proofs.Lists.{drop_replicate}
use Rattle.lang.specs.Checks.{or_else, unless}
use Rattle.lang.specs.Answers.{room_refusal, list_of, reply_of}
use Rattle.lang.proofs.Filled.{refused_list}
use Rattle.property_lists.specs.declared.Progress.{Progress}
use Rattle.property_lists.specs.ListReading.{ListRead, label_entries, pl_read}
use Rattle.pl_read.specs.declared.StepsListed.TheVariants as listed
use Rattle.pl_read.specs.ValueLists.{steps_refusal, steps_values, steps_reply, ReadsValues}
use Rattle.std.specs.Prelude.{Option as Answer, Some, None}
use Rattle.pl_apply.specs.Standing.{overlay, Stands, StandsAt, Follows, on, stuck}
use Rattle.pl_apply.proofs.Laws.{overlay_all}

or_none : (a b : ℕ) → or_else a b ≡ 0 → (a ≡ 0) × (b ≡ 0)
or_none zero b e = (refl, e)
or_none (suc a) b e = absurd (omega arith)

room_none : (k room : ℕ) → room_refusal k room ≡ 0 → k ≤ room
room_none k room e = by (leb k room) refl e
  where
    by : (t : Bool) → leb k room ≡ t → ◌≡◌ {A = ℕ} (cond t 0 15) 0 → k ≤ room
    by true q p = leb-true k room q
    by false q p = absurd (omega arith)

-- a list of zeros, written over its front
written : (n : ℕ) (xs : List ℤ) {d : List ℤ} → d ≡ overlay xs (replicate n (pos 0)) → length xs ≤ n → d ≡ list_of 0 (pos 0) n xs
written n xs e h =
    e ∙ overlay_all xs (replicate n (pos 0)) (rw (length-replicate n (pos 0)) h) ∙ ap (λ (t : List ℤ). xs ++ t) (drop_replicate (length xs) n (pos 0))

pub followed_on : {z : List ℤ} {o : Option ListRead} {r : Answer Progress} {s : Progress} {i b : List ℤ} → Follows z o r i b → r ≡ Some s → StandsAt z o s i b
followed_on {s = s} (on {s = u} st) q = let x : u ≡ s = cc in rw x at st
followed_on (stuck k) q = let x : ◌≡◌ {A = ℕ} 0 1 = cc in absurd (omega arith)

number_of_lem : (m : ℕ) → (m ≡ 0 → ⊥) → (vs : List ℤ) → steps_reply (listed.Refused m) ≡ reply_of m vs
number_of_lem zero h vs = absurd (h refl)
number_of_lem (suc m) h vs = refl

module _ (text : List ℕ) (instructions entries : List ℤ) where
  pub answer_none : {r : Answer Progress} {z i₁ b₁ i e : List ℤ} → Follows z (pl_read text) r i₁ b₁ → r ≡ None → i ≡ replicate (length instructions) (pos 0) →
      e ≡ replicate (length entries) (pos 0) → ReadsValues text instructions entries (listed.Refused 23) i e
  answer_none (on st) q p f = let x : ◌≡◌ {A = ℕ} 0 1 = cc in absurd (omega arith)
  answer_none (stuck k) q p f = record { answer = rw k; program = rw k p; labels = rw k f }

  module _ {s : Progress} {b i₁ : List ℤ} (st : StandsAt (replicate (length instructions) (pos 0)) (pl_read text) s i₁ b) {n m : ℕ}
      (counted : n ≡ length (label_entries b 256)) {room space : ℕ}
      (number : m ≡ or_else (unless 1 (leb s.steps 32767)) (or_else (room_refusal (4 * s.steps) room) (room_refusal n space)))
      (room_is : room ≡ length instructions) (space-is : space ≡ length entries) where
    refusal_is : m ≡ steps_refusal (pl_read text) (length instructions) (length entries)
    refusal_is = number ∙ rw (st.is, st.stands.now_is, counted, st.stands.labels_are, room_is, space-is)

    pub answer_refused : {i e : List ℤ} → (m ≡ 0 → ⊥) → i ≡ replicate (length instructions) (pos 0) → e ≡ replicate (length entries) (pos 0) →
        ReadsValues text instructions entries (listed.Refused m) i e
    answer_refused h p f =
        record {
          answer = number_of_lem m h (steps_values (pl_read text)) ∙ ap (λ (k : ℕ). reply_of k (steps_values (pl_read text))) refusal_is;
          program = refused_list (pos 0) (length instructions) _ refusal_is h p;
          labels = refused_list (pos 0) (length entries) _ refusal_is h f;
        }

    pub answer_font : {i e : List ℤ} → m ≡ 0 → i ≡ i₁ → e ≡ overlay (label_entries b 256) (replicate (length entries) (pos 0)) → {boundary left : ℤ} →
        boundary ≡ number_of s.boundary → left ≡ get_or b 256 (pos 0) → ReadsValues text instructions entries (listed.Font s.steps (n / 2) boundary left) i e
    answer_font h p f bo le =
        let z = sym refusal_is ∙ h in
        let o = or_none (unless 1 (leb s.steps 32767)) _ (sym number ∙ h) in
        let q = or_none (room_refusal (4 * s.steps) room) (room_refusal n space) o.1 in
        let l = st.stands in
        let w = written (length instructions) st.read.program (p ∙ l.stored) (omega (arith, l.fours, room_none (4 * s.steps) room q.0)) in
        let v = written (length entries) (label_entries b 256) f (omega (arith, room_none n space q.1)) in
        record {
          answer = rw z (rw st.is (rw (l.now_is, bo, le, counted, l.labels_are)));
          program = rw z (rw st.is w);
          labels = rw z (rw (st.is, ← l.labels_are) v);
        }
