-- What specs/Purpose states but the numbers (RefusalNumbers). Assumes nothing.
use mathlib.Core.Path.{◌≡◌, refl, sym, ap, ap₂, ◌∙◌}
use mathlib.Core.Bool.{Bool, true, false, cond}
use mathlib.Core.List.{List, [], ◌∷◌}
use mathlib.Core.Option.{Option, some}
use Prim.Native.Nat.{ℕ, zero, suc, ◌/◌, ◌<◌, ◌≤◌}
use native.Mathlib.Omega.{arith}
use lib.IntN.{ℤ, pos}
use lib.Dec.{leb, ltb}
use lib.ListN.{length, get_or}
use borrow.Author.Tests.{le-leb, leb-true, ltb-true}
use Rattle.lang.specs.Every.{both, every}
use Rattle.lang.specs.Checks.{unless, or_else, absent_refusal, is_letter}
use Rattle.lang.specs.Answers.{Reply}
use Rattle.lang.proofs.Every.{both_left, both_right, every_all}
use Rattle.lang.proofs.Refusals.{or_else_none, unless_none}
use Rattle.captions.specs.declared.State.{State}
use Rattle.captions.specs.declared.Begun.TheVariants.{Run}
use Rattle.captions.specs.Form.{table_refusal}
use Rattle.captions.specs.Begin.{edges_refusal, letters_refusal, override_refusal, word_refusal, begin_refusal, fresh_state, plain_options, begun_by}
use Rattle.captions.specs.Demand3.{Caption}
use Rattle.word_set.specs.Setting.{items_from, after_begin}
use Rattle.word_set.proofs.Theorems.{every_word}
use Rattle.letter_set.specs.LetterSets.{letter_in}
use Rattle.short_words.specs.ShortWords.{all_in_set, is_short_word}
use Rattle.short_words.specs.NextWords.{next_short_word, short_refusal}
use Rattle.short_words.proofs.Products.{letters_cons}
use Rattle.short_words.proofs.Theorems.{next_is_taken}
use Rattle.short_word_items.specs.NextItems.{next_word_items}
use Rattle.short_word_set.specs.SetNext.{items_of_next}
use Rattle.short_word_settings.specs.Purpose.{SetsAsWord, SetsAsRead}

-- ---- a word over a set is a caption

letter_of : (letters word : List ℕ) (i : ℕ) → all_in_set letters word ≡ true → i < length word → letter_in letters (get_or word i 0) ≡ true
letter_of letters [] i e l = absurd (omega arith)
letter_of letters (c ∷ cs) zero e l = both_left (letter_in letters c) (all_in_set letters cs) (sym (letters_cons letters c cs) ∙ e)
letter_of letters (c ∷ cs) (suc i) e l =
    letter_of letters cs i (both_right (letter_in letters c) (all_in_set letters cs) (sym (letters_cons letters c cs) ∙ e)) (omega arith)

below_letter : (letters : List ℕ) (c : ℕ) → letter_in letters c ≡ true → is_letter c ≡ true
below_letter letters c e =
    let l : c < 256 = ltb-true c 256 (both_left (ltb c 256) _ e) in
    ap (λ (t : Bool). cond t true (both (leb 57344 c) (leb c 1114111))) (le-leb c 55295 (omega arith))

module _ (letters word next : List ℕ) (taken : short_refusal letters word ≡ 0) (is : next_short_word letters word ≡ some next) where
  next_is : is_short_word letters next ≡ true
  next_is = next_is_taken letters word next (unless_none 26 (is_short_word letters word) taken) is

  pub few : length next ≤ 4
  few = leb-true (length next) 4 (both_left (leb (length next) 4) (all_in_set letters next) next_is)

  pub all_letters : every (length next) (λ i. is_letter (get_or next i 0)) ≡ true
  all_letters =
      every_all (length next) (λ i. is_letter (get_or next i 0))
      (λ i l. below_letter letters (get_or next i 0) (letter_of letters next i (both_right (leb (length next) 4) (all_in_set letters next) next_is) l))

  caption : Caption next plain_options
  caption = record { letters_fit = all_letters; word_fits = omega (arith, few); override_fits_lem = refl }

  -- ---- begin takes it where it takes the table

  module _ (pairs ops : List ℤ) (boundary : ℤ) (begun : List ℕ) (accepted : begin_refusal pairs ops boundary begun plain_options ≡ 0) where
    abbrev after_table : List ℕ → ℕ
    after_table w = or_else (letters_refusal w) (override_refusal plain_options.right_boundary_override)

    abbrev after-word : List ℕ → ℕ
    after-word w = or_else (table_refusal pairs ops) (after_table w)

    parts : (edges_refusal boundary plain_options ≡ 0) × (or_else (word_refusal begun) (after-word begun) ≡ 0)
    parts = or_else_none (edges_refusal boundary plain_options) (or_else (word_refusal begun) (after-word begun)) accepted

    table : table_refusal pairs ops ≡ 0
    table = (or_else_none (table_refusal pairs ops) (after_table begun) (or_else_none (word_refusal begun) (after-word begun) parts.1).1).0

    edge : absent_refusal 255 boundary ≡ 0
    edge = (or_else_none (absent_refusal 255 boundary) (absent_refusal 2147483647 plain_options.right_boundary_override) parts.0).0

    begins : begin_refusal pairs ops boundary next plain_options ≡ 0
    begins =
        ap₂ (λ (a b : ℕ). or_else a (or_else b (after-word next))) parts.0 (ap (unless 6) (le-leb (length next) 65535 (omega (arith, few))))
        ∙ ap₂ (λ (a b : ℕ). or_else a (or_else b 0)) table (ap (unless 20) all_letters)

    by_first : (t : Bool) (room : ℕ) → next_word_items t pairs ops boundary next room ≡ next_word_items true pairs ops boundary next room
    by_first true room = refl
    by_first false room =
        sym (ap (λ (n : ℕ). after_begin n (items_from pairs ops boundary next plain_options (room / 6) (fresh_state next plain_options))) begins)

    as-word : (t : Bool) (room : ℕ) →
        after_begin (or_else (absent_refusal 255 boundary) (short_refusal letters word)) (items_of_next (next_short_word letters word) t pairs ops boundary room)
        ≡ next_word_items true pairs ops boundary next room
    as-word t room =
        ap₂ (λ (n : ℕ) (o : Option (List ℕ)). after_begin n (items_of_next o t pairs ops boundary room)) (ap₂ or_else edge taken) is ∙ by_first t room

pub sets_as_word : SetsAsWord
sets_as_word letters pairs ops boundary word next begun room z taken is =
    as-word letters word next taken is pairs ops boundary begun z _ room

begun_run : (n : ℕ) (s t : State) → begun_by n s ≡ Run t → n ≡ 0
begun_run zero s t e = refl
begun_run (suc n) s t e = absurd (let z : ◌≡◌ {A = ℕ} 0 1 = cc in omega arith)

pub sets_as_read : SetsAsRead
sets_as_read f pairs ops loops letters word next room d taken is =
    let r = d.set_as_read refl next plain_options (caption letters word next taken is) in
    let a = r.2 in
    let z = begun_run (begin_refusal pairs ops f.boundary next plain_options) (fresh_state next plain_options) a.start a.begins in (
      r.0,
      r.1,
      λ l. (
        sets_as_word letters pairs ops f.boundary word next next room z taken is,
        every_word f pairs ops next plain_options r.0 room a l,
      ),
    )
