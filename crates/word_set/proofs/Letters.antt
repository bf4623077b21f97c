-- No letter lost of a word that is set whole: the statement is `EverySetWord` of specs/Purpose. Its items are the answers of the steps up to the end, whose
-- letters captions/proofs/Joining joins. Assumes nothing.
use mathlib.Core.Path.{◌≡◌, refl, sym, ap, ◌∙◌}
use mathlib.Core.Bool.{true}
use mathlib.Core.List.{List, [], ◌∷◌, ◌++◌}
use Prim.Native.Nat.{ℕ, zero, suc, ◌*◌, ◌/◌}
use native.Mathlib.Omega.{arith}
use lib.IntN.{ℤ}
use lib.ListN.{length, length-append}
use Rattle.lang.specs.Answers.{Reply, reply_of}
use Rattle.captions.specs.declared.RunOptions.{RunOptions}
use Rattle.captions.specs.declared.State.{State}
use Rattle.captions.specs.declared.Answer.{Answer}
use Rattle.captions.specs.declared.Answer.TheVariants.{Char, Ligature, Kern, End, Refused}
use Rattle.captions.specs.Replies.{answer_reply}
use Rattle.captions.specs.Begin.{begin_refusal, fresh_state}
use Rattle.captions.specs.Steps.{step_of}
use Rattle.captions.specs.Runs.{answers}
use Rattle.captions.specs.Queries.{original_of}
use Rattle.captions.specs.Letters.{answer_letters, joined, state_after, answer_after}
use Rattle.captions.proofs.Joining.{whole_at_end, own_original}
use Rattle.captions.proofs.Theorems.{every_run_begun}
use Rattle.word_items.specs.ItemLists.{is_item}
use Rattle.word_items.proofs.Laws.{item_six}
use Rattle.word_set.specs.Setting.{numbers_before, and_then, items_by, items_from, after_begin}
use Rattle.word_set.specs.Purpose.{items_letters, EverySetWord}
use Rattle.word_set.proofs.Laws.{set_run}

-- a reply of the number 0 after an item: so was the rest, and its numbers come after the item's
pub before_taken : (vs : List ℤ) (r : Reply) → (numbers_before vs r).number ≡ 0 → (r.number ≡ 0) × ((numbers_before vs r).values ≡ vs ++ r.values)
before_taken vs r e = taken_by r.number (vs ++ r.values) e where
  taken_by : (n : ℕ) (xs : List ℤ) → (reply_of n xs).number ≡ 0 → (n ≡ 0) × ((reply_of n xs).values ≡ xs)
  taken_by zero xs e = (refl, refl)
  taken_by (suc n) xs e = absurd (omega (arith, e))

module _ (pairs ops : List ℤ) (boundary : ℤ) (word : List ℕ) (options : RunOptions) where
  -- of the steps from s: none is refused, and a character's own letter is its original
  record Own (s : State) : Type 0 where
    taken : (n k : ℕ) → answer_after pairs ops boundary word options n s ≡ Refused k → ⊥
    original : (n c p : ℕ) → answer_after pairs ops boundary word options n s ≡ Char c p → original_of word p 1 ≡ c ∷ []

  own_after : (s : State) → Own s → Own (step_of pairs ops boundary word options s).state
  unfolding state_after
  own_after s h = record { taken = λ n. h.taken (suc n); original = λ n. h.original (suc n) }

  -- the items of a reply that is not refused are the first m answers, and then comes the end
  record Joins (s : State) (r : Reply) : Type 0 where
    many : ℕ
    ends : answer_after pairs ops boundary word options many s ≡ End
    counted : length r.values ≡ 6 * many
    letters : items_letters word many r.values ≡ joined word (answers pairs ops boundary word options many s)

  -- an item before what joins
  item_joins : (s : State) (a : Answer) (r : Reply) → (step_of pairs ops boundary word options s).answer ≡ a → is_item a ≡ true →
      ((n : ℕ) (xs : List ℤ) → items_letters word (suc n) ((answer_reply a).values ++ xs) ≡ answer_letters word a ++ items_letters word n xs) →
      (numbers_before (answer_reply a).values r).number ≡ 0 →
      (r.number ≡ 0 → Joins (step_of pairs ops boundary word options s).state r) → Joins s (numbers_before (answer_reply a).values r)
  unfolding answers state_after joined
  item_joins s a r e i first z h =
      let vs = (answer_reply a).values in
      let b = before_taken vs r z in
      let j = h b.0 in
      let rest = joined word (answers pairs ops boundary word options j.many (step_of pairs ops boundary word options s).state) in
      record {
        many = suc j.many;
        ends = j.ends;
        counted = omega (arith, ap length b.1, length-append vs r.values, item_six a i, j.counted);
        letters =
            ap (items_letters word (suc j.many)) b.1 ∙ first j.many r.values ∙ ap (λ (ls : List ℕ). answer_letters word a ++ ls) j.letters
            ∙ ap (λ (x : Answer). answer_letters word x ++ rest) (sym e);
      }

  -- by the answer of the step
  answer_joins : (s : State) (a : Answer) (r : Reply) → (step_of pairs ops boundary word options s).answer ≡ a → Own s → (and_then a r).number ≡ 0 →
      (r.number ≡ 0 → Joins (step_of pairs ops boundary word options s).state r) → Joins s (and_then a r)
  unfolding answers state_after joined items_letters
  answer_joins s (Char c p) r e o z h =
      item_joins s (Char c p) r e refl (λ n xs. ap (λ (ls : List ℕ). ls ++ items_letters word n xs) (o.original 0 c p e)) z h
  answer_joins s (Ligature c p n x y) r e o z h = item_joins s (Ligature c p n x y) r e refl (λ n xs. refl) z h
  answer_joins s (Kern k) r e o z h = item_joins s (Kern k) r e refl (λ n xs. refl) z h
  answer_joins s End r e o z h = record { many = 0; ends = e; counted = refl; letters = refl }
  answer_joins s (Refused k) r e o z h = absurd (o.taken 0 k e)

  items_join : (n : ℕ) (s : State) → Own s → (items_from pairs ops boundary word options n s).number ≡ 0 → Joins s (items_from pairs ops boundary word options n s)
  unfolding items_by
  items_join zero s o z =
      answer_joins s (step_of pairs ops boundary word options s).answer (reply_of 15 []) refl o z (λ e. absurd (omega (arith, e)))
  items_join (suc n) s o z =
      let t = step_of pairs ops boundary word options s in
      answer_joins s t.answer (items_from pairs ops boundary word options n t.state) refl o z (items_join n t.state (own_after s o))

-- a reply that is not refused is one of a run that began
began : (n : ℕ) (r : Reply) → (after_begin n r).number ≡ 0 → n ≡ 0
began zero r e = refl
began (suc n) r e = absurd (omega (arith, e))

pub every_set_word : EverySetWord
every_set_word pairs ops boundary word options room z =
    let l = every_run_begun pairs ops boundary word options
    (began (begin_refusal pairs ops boundary word options) (items_from pairs ops boundary word options (room / 6) (fresh_state word options)) z) in
    let q = set_run pairs ops boundary word options l.start (sym l.begins) room in
    let own : Own pairs ops boundary word options l.start =
    record { taken = l.not_refused; original = own_original pairs ops boundary word options l } in
    let j = items_join pairs ops boundary word options (room / 6) l.start own (sym (ap (λ (r : Reply). r.number) q) ∙ z) in
    let vs = (items_from pairs ops boundary word options (room / 6) l.start).values in
    let m : length vs / 6 ≡ j.many = omega (arith, j.counted) in
    ap (λ (r : Reply). items_letters word (length r.values / 6) r.values) q ∙ ap (λ (n : ℕ). items_letters word n vs) m
    ∙ j.letters ∙ whole_at_end pairs ops boundary word options l j.many j.ends
