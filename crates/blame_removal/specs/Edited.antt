-- The contract of answer_edited: what removal i answers (R485), where the font with its edited instructions is lent, and the table of
-- the font
-- as given.
use Rattle.std.specs.Prelude.{◌≡◌, true, List, ℕ, ◌*◌, ◌≤◌, ℤ, pos, length, take, replicate}
use Rattle.fonts.specs.Fonts.{Font}
use Rattle.fonts.specs.Compiled.{room_of, sized_refusal}
use Rattle.fonts.specs.declared.Compiled.{Compiled}
use Rattle.fonts.specs.declared.Compiled.TheVariants.{Tables, Refused}
use Rattle.captions.specs.declared.RunOptions.{RunOptions}
use Rattle.captions.specs.Begin.{fresh_state}
use Rattle.removals.specs.declared.Blamed.{Blamed}
use Rattle.removals.specs.Items.{run_items, font_items, same_items}
use Rattle.removals.specs.Search.{removal_answer}

-- what compile answered fits the second table: as many numbers as it counts
abbrev pub TablesFit : Compiled → List ℤ → List ℤ → Type 0
TablesFit (Tables p o l) pairs ops = (6 * p ≤ length pairs) × (2 * o ≤ length ops)
TablesFit (Refused n) pairs ops = Unit {0}

-- by compile's answer: its number; else whether the items over the second table, cut to its counts, are the same
abbrev pub compiled_answer : ℕ → Compiled → ℤ → List ℕ → RunOptions → List ℤ → List ℤ → List ℤ → List ℤ → Blamed
compiled_answer i (Tables p o l) boundary word options pairs ops pairsWithout opsWithout =
    removal_answer i 0
    (same_items (run_items pairs ops boundary word options (fresh_state word options))
    (run_items (take (6 * p) pairsWithout) (take (2 * o) opsWithout) boundary word options (fresh_state word options)))
compiled_answer i (Refused n) boundary word options pairs ops pairsWithout opsWithout = removal_answer i n true

-- the answer, and zeros in the three lists that are written; `size` is the number of the size asked for
pub record AnswersEdited (i : ℕ) (f : Font) (size : ℕ) (word : List ℕ) (options : RunOptions) (pairs ops pairsWithout opsWithout : List ℤ)
    (work : List ℕ) (r : Blamed) (pairsWithout' opsWithout' : List ℤ) (work' : List ℕ) : Type 0 where
  pub answer : r ≡
      removal_answer i (sized_refusal f (room_of (length pairsWithout) (length opsWithout) 0 (length work)) size)
      (same_items (run_items pairs ops f.boundary word options (fresh_state word options)) (font_items f word options))
  pub table : pairsWithout' ≡ replicate (length pairsWithout) (pos 0)
  pub ops_table_lem : opsWithout' ≡ replicate (length opsWithout) (pos 0)
  pub cleared : work' ≡ replicate (length work) 0
