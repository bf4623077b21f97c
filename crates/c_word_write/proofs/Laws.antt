-- What set_next answered, in lists: the number, and what they hold by it. Assumes nothing.
use mathlib.Core.Path.{◌≡◌, refl, sym, ap, ap₂, ◌∙◌}
use mathlib.Core.List.{List}
use Prim.Native.Nat.{ℕ, ◌≤◌}
use native.Mathlib.Omega.{arith}
use lib.IntN.{ℤ, pos}
use lib.ListN.{length, replicate, length-replicate}
use lib.Seq.{sets}
use Rattle.lang.specs.Checks.{lower}
use Rattle.lang.specs.Answers.{room_refusal}
use Rattle.lang.proofs.Refusals.{lower_none, room_fits}
use Rattle.lang.proofs.Filled.{refused_list}
use Rattle.c_values.specs.Telling.{kept}
use Rattle.c_values.proofs.Telling.{listed}
use Rattle.short_words.specs.declared.SetNext.{SetNext}
use Rattle.short_words.specs.NextWords.{next_answer_reply}
use Rattle.c_word_write.specs.NextLists.{letter_numbers, next_values, WritesNext}

module _ (told : SetNext) (next : List ℕ) (items : List ℤ) (values : List ℕ) where
  -- what stands before the number is looked at: zeros in both lists, and the number
  pub record Course (nz vz : List ℕ) (items₁ : List ℤ) (number : ℕ) : Type 0 where
    pub zero_next : nz ≡ replicate (length next) 0
    pub zero_values : vz ≡ replicate (length values) 0
    pub number_is : number ≡ lower (next_answer_reply told.answer).number (lower (room_refusal 4 (length nz)) (room_refusal 3 (length vz)))
    pub kept_items_lem : items₁ ≡ kept number (pos 0) items

  module _ (nz vz : List ℕ) (items₁ : List ℤ) (number : ℕ) (h : Course nz vz items₁ number) where
    long-next : length nz ≡ length next
    long-next = ap length h.zero_next ∙ length-replicate (length next) 0

    long-values : length vz ≡ length values
    long-values = ap length h.zero_values ∙ length-replicate (length values) 0

    its-number : number ≡ lower (next_answer_reply told.answer).number (lower (room_refusal 4 (length next)) (room_refusal 3 (length values)))
    its-number =
        h.number_is ∙ ap₂ (λ (a b : ℕ). lower (next_answer_reply told.answer).number (lower (room_refusal 4 a) (room_refusal 3 b))) long-next long-values

    pub next_refused : (number ≡ 0 → ⊥) → WritesNext told next items values number nz items₁ vz
    next_refused r =
        record {
          number = its-number;
          word = refused_list 0 (length next) (letter_numbers told.word) {m = number} refl r h.zero_next;
          list = h.kept_items_lem;
          tells = refused_list 0 (length values) (next_values told) {m = number} refl r h.zero_values;
        }

    module _ (z : number ≡ 0) where
      rooms : (room_refusal 4 (length next) ≡ 0) × (room_refusal 3 (length values) ≡ 0)
      rooms =
          lower_none (room_refusal 4 (length next)) (room_refusal 3 (length values))
          (lower_none (next_answer_reply told.answer).number (lower (room_refusal 4 (length next)) (room_refusal 3 (length values))) (sym its-number ∙ z)).1

      pub room_for_values : 3 ≤ length vz
      room_for_values = omega (arith, room_fits 3 (length values) rooms.1, long-values)

      pub next_taken : {next' values' : List ℕ} → next' ≡ sets nz 0 (letter_numbers told.word) → values' ≡ sets vz 0 (next_values told) →
          WritesNext told next items values 0 next' items₁ values'
      next_taken e f =
          record {
            number = sym z ∙ its-number;
            word = listed 0 (length next) (letter_numbers told.word) {m = 0} refl h.zero_next (room_fits 4 (length next) rooms.0) e;
            list = h.kept_items_lem ∙ ap (λ (n : ℕ). kept n (pos 0) items) z;
            tells = listed 0 (length values) (next_values told) {m = 0} refl h.zero_values (room_fits 3 (length values) rooms.1) f;
          }
