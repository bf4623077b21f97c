-- What is set is what demand 3 promises: the statement is specs/Purpose. By induction on the items: each step gives the next of them, and the step after the
-- last is the end. Assumes nothing.
use mathlib.Core.Path.{◌≡◌, refl, sym, ap, ◌∙◌}
use mathlib.Core.Bool.{true}
use mathlib.Core.List.{List, [], ◌∷◌, map}
use Prim.Native.Nat.{ℕ, zero, suc, ◌*◌, ◌/◌, ◌≤◌}
use native.Mathlib.Omega.{arith}
use lib.IntN.{ℤ}
use lib.ListN.{length, length-append}
use Rattle.lang.specs.Answers.{Reply, reply_of}
use Rattle.reading.specs.Items.{Out}
use Rattle.captions.specs.declared.RunOptions.{RunOptions}
use Rattle.captions.specs.declared.State.{State}
use Rattle.captions.specs.declared.Answer.{Answer}
use Rattle.captions.specs.declared.Answer.TheVariants.{Char, Ligature, Kern, End, Refused}
use Rattle.captions.specs.declared.Step.{Step}
use Rattle.captions.specs.Replies.{answer_reply}
use Rattle.captions.specs.Steps.{step_of}
use Rattle.captions.specs.Runs.{answers, Shown, shows, ends, shown, then_ends}
use Rattle.word_items.specs.ItemLists.{is_item}
use Rattle.word_items.proofs.Laws.{item_six}
use Rattle.word_set.specs.Setting.{numbers_before, items_from}
use Rattle.word_set.specs.Purpose.{values_of, EveryWord}
use Rattle.word_set.proofs.Standing.{item_then, from_suc, from_stops}
use Rattle.word_set.proofs.Laws.{set_run}

-- ---- an answer by what it shows

shown_end : (a : Answer) → shown a ≡ ends → a ≡ End
shown_end (Char c p) e = absurd (let z : ◌≡◌ {A = ℕ} 0 1 = cc in omega arith)
shown_end (Ligature c p n a b) e = absurd (let z : ◌≡◌ {A = ℕ} 0 1 = cc in omega arith)
shown_end (Kern k) e = absurd (let z : ◌≡◌ {A = ℕ} 0 1 = cc in omega arith)
shown_end End e = refl
shown_end (Refused n) e = absurd (let z : ◌≡◌ {A = ℕ} 0 1 = cc in omega arith)

shown_item : (a : Answer) (o : Out) → shown a ≡ shows o → is_item a ≡ true
shown_item (Char c p) o e = refl
shown_item (Ligature c p n a b) o e = refl
shown_item (Kern k) o e = refl
shown_item End o e = absurd (let z : ◌≡◌ {A = ℕ} 0 1 = cc in omega arith)
shown_item (Refused n) o e = absurd (let z : ◌≡◌ {A = ℕ} 0 1 = cc in omega arith)

abbrev first_of : List Shown → Shown
first_of [] = ends
first_of (x ∷ xs) = x

abbrev others_of : List Shown → List Shown
others_of [] = []
others_of (x ∷ xs) = xs

-- as many steps as there are items give them all
all_shown : (items : List Out) → then_ends (length items) items ≡ map shows items
unfolding then_ends
all_shown [] = refl
all_shown (o ∷ items) = ap (λ (xs : List Shown). shows o ∷ xs) (all_shown items)

-- ---- the items of a run that answers them

module _ (pairs ops : List ℤ) (boundary : ℤ) (word : List ℕ) (options : RunOptions) where
  -- the numbers of the answers of n steps
  abbrev steps_numbers : ℕ → State → List ℤ
  steps_numbers n s = values_of (answers pairs ops boundary word options n s)

  -- of at most n items from s on, the reply has the numbers of so many steps
  record Holds (n : ℕ) (s : State) (items : List Out) : Type 0 where
    values : items_from pairs ops boundary word options n s ≡ reply_of 0 (steps_numbers (length items) s)
    many : length (steps_numbers (length items) s) ≡ 6 * length items

  module _ (s : State) where
    abbrev t : Step
    t = step_of pairs ops boundary word options s

    no_items : (n : ℕ) → map shown (answers pairs ops boundary word options 1 s) ≡ then_ends 1 [] → Holds n s []
    unfolding answers then_ends values_of
    no_items n e =
        let q : t.answer ≡ End = shown_end t.answer (ap first_of e) in
        record { values = from_stops (step_of pairs ops boundary word options) s t refl n End (reply_of 0 []) q (λ r. refl); many = refl }

    first-item : (o : Out) (items : List Out) → map shown (answers pairs ops boundary word options 1 s) ≡ then_ends 1 (o ∷ items) → shown t.answer ≡ shows o
    unfolding answers then_ends
    first-item o items e = ap first_of e

    other_items : (o : Out) (items : List Out) (n : ℕ) → map shown (answers pairs ops boundary word options (suc n) s) ≡ then_ends (suc n) (o ∷ items) →
        map shown (answers pairs ops boundary word options n t.state) ≡ then_ends n items
    unfolding answers then_ends
    other_items o items n e = ap others_of e

    one_more : (n : ℕ) (o : Out) (items : List Out) → shown t.answer ≡ shows o → Holds n t.state items → Holds (suc n) s (o ∷ items)
    unfolding answers values_of
    one_more n o items e h =
        let v = (answer_reply t.answer).values in
        let i : is_item t.answer ≡ true = shown_item t.answer o e in
        let sum = length-append v (steps_numbers (length items) t.state) in
        record {
          values =
              from_suc (step_of pairs ops boundary word options) s t refl n
              ∙ item_then t.answer (items_from pairs ops boundary word options n t.state) i
              ∙ ap (numbers_before v) h.values;
          many = omega (arith, sum, item_six t.answer i, h.many);
        }

  holds : (items : List Out) (n : ℕ) (s : State) → length items ≤ n → ((m : ℕ) → map shown (answers pairs ops boundary word options m s) ≡ then_ends m items) →
      Holds n s items
  holds [] n s l h = no_items s n (h 1)
  holds (o ∷ items) zero s l h = absurd (omega arith)
  holds (o ∷ items) (suc n) s l h =
      one_more s n o items (first-item s o items (h 1))
      (holds items n (step_of pairs ops boundary word options s).state (omega arith) (λ m. other_items s o items m (h (suc m))))

pub every_word : EveryWord
every_word f pairs ops word options items room a l =
    let h = holds pairs ops f.boundary word options items (room / 6) a.start (omega (arith, l)) a.answered in
    let q = set_run pairs ops f.boundary word options a.start (sym a.begins) room ∙ h.values in
    let n : length (steps_numbers pairs ops f.boundary word options (length items) a.start) / 6 ≡ length items = omega (arith, h.many) in
    record {
      start = a.start;
      begins = a.begins;
      accepted = ap (λ (r : Reply). r.number) q;
      numbers = ap (λ (r : Reply). r.values) q;
      same = a.answered (length items) ∙ all_shown items;
      counted = ap (λ (r : Reply). length r.values / 6) q ∙ n;
    }
