-- The next word in lists: its number, and what the lists hold by it. Assumes nothing.
use mathlib.Core.Path.{◌≡◌, refl, sym, ap, ◌∙◌}
use mathlib.Core.List.{List}
use mathlib.Core.Option.{Option, none, some}
use Prim.Native.Nat.{ℕ, zero, suc, ◌/◌}
use lib.IntN.{ℤ, pos}
use lib.ListN.{length}
use Rattle.lang.specs.Checks.{lower}
use Rattle.lang.specs.Answers.{Reply, list_of, room_refusal}
use Rattle.lang.proofs.Refusals.{lower_none}
use Rattle.c_values.specs.Telling.{kept}
use Rattle.c_values.proofs.Telling.{kept_list}
use Rattle.short_words.specs.declared.SetNext.{SetNext}
use Rattle.short_words.specs.NextWords.{next_found, next_answer_reply}
use Rattle.short_word_set.specs.SetNext.{set_next_by, SetsFound}
use Rattle.c_word_write.specs.NextLists.{letter_numbers, next_values, WritesNext}
use Rattle.c_words.specs.Words.{next_short_number, TellsNext}

-- the number of an answer is that of the reply
found_taken : (o : Option (List ℕ)) → (next_answer_reply (next_found o).answer).number ≡ 0
found_taken none = refl
found_taken (some w) = refl

answer_number_lem : (o : Option (List ℕ)) (n k : ℕ) → (next_answer_reply (set_next_by n (next_found o) k).answer).number ≡ n
answer_number_lem o zero k = found_taken o
answer_number_lem o (suc n) k = refl

-- what is listed matters only where nothing is refused
same_list : (m k : ℕ) {xs ys : List ℕ} → (m ≡ 0 → xs ≡ ys) → list_of m 0 k xs ≡ list_of m 0 k ys
same_list zero k h = ap (list_of 0 0 k) (h refl)
same_list (suc m) k h = refl

module _ (o : Option (List ℕ)) (reply : Reply) (next : List ℕ) (items : List ℤ) (values : List ℕ) (told : SetNext) (items₁ : List ℤ)
    (found : SetsFound reply (next_found o) items told items₁) (same : length items₁ ≡ length items) where
  pub tells_next : {r : ℕ} {next' : List ℕ} {items' : List ℤ} {values' : List ℕ} → WritesNext told next items₁ values r next' items' values' →
      TellsNext reply (next_found o) next items values r next' items' values'
  tells_next w =
      let rooms = lower (room_refusal 4 (length next)) (room_refusal 3 (length values)) in
      let number = next_short_number reply (length next) (length values) in
      let count = length reply.values / 6 in
      let is : _ ≡ number =
      w.number ∙ ap (λ (n : ℕ). lower n rooms) (ap (λ (t : SetNext). (next_answer_reply t.answer).number) found.answer ∙ answer_number_lem o reply.number count) in
      let taken : number ≡ 0 → reply.number ≡ 0 = λ z. (lower_none reply.number rooms z).0 in
      record {
        number = is;
        word =
            w.word ∙ ap (λ (n : ℕ). list_of n 0 (length next) (letter_numbers told.word)) is
            ∙ same_list number (length next)
            (λ z. ap (λ (t : SetNext). letter_numbers t.word) found.answer
            ∙ ap (λ (n : ℕ). letter_numbers (set_next_by n (next_found o) count).word) (taken z));
        list =
            kept_list (pos 0) (length items) number reply.number reply.values taken found.list same
            (w.list ∙ ap (λ (n : ℕ). kept n (pos 0) items₁) is);
        told =
            w.tells ∙ ap (λ (n : ℕ). list_of n 0 (length values) (next_values told)) is
            ∙ ap (λ (t : SetNext). list_of number 0 (length values) (next_values t)) found.answer;
      }
