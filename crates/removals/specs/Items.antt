-- The items of a word (R482): what the steps from a fresh run answer up to the end, six numbers each (R132, R133), so that two lists are
-- equal exactly when their items are, originals and flags included.
use Rattle.std.specs.Prelude.{Bool, List, ℕ, suc, ◌+◌, ◌*◌, ℤ, eqb, length}
use Rattle.lang.specs.Every.{both}
use Rattle.lang.specs.Answers.{Reply}
use Rattle.fonts.specs.Fonts.{Font}
use Rattle.fonts.specs.Compiled.{font_table, font_ops}
use Rattle.repairs.specs.Committing.{same_numbers}
use Rattle.captions.specs.declared.RunOptions.{RunOptions}
use Rattle.captions.specs.declared.NextLeft.{NextLeft}
use Rattle.captions.specs.declared.NextLeft.TheVariants as next
use Rattle.captions.specs.declared.State.{State}
use Rattle.captions.specs.Tables.{op_count}
use Rattle.captions.specs.Begin.{fresh_state}
use Rattle.step_turns.specs.Turns.{turns_left}
use Rattle.word_set.specs.Setting.{items_from}

-- 1 while a last ligature may still be given: at the word's end, in the place of the right item
abbrev pub lasts_left : NextLeft → ℕ
lasts_left next.Boundary = 1
lasts_left (next.Char c) = 1
lasts_left (next.Lig c) = 1
lasts_left (next.FinalLig c) = 1
lasts_left next.None = 0

-- how many items a run can give from a state on, over m ops and a word of n letters: each turn, and the last ligature, one item and m
-- ops at
-- most, and before them the ops that are still to be given
abbrev pub most_items : ℕ → ℕ → State → ℕ
most_items m n s = (turns_left n s + lasts_left s.next_left) * suc m + s.ops

-- the items of the run over a table from a state on, with room for all of them (`run_fits` of proofs/Lessening)
abbrev pub run_items : List ℤ → List ℤ → ℤ → List ℕ → RunOptions → State → Reply
run_items pairs ops boundary word options s = items_from pairs ops boundary word options (most_items (op_count ops) (length word) s) s

-- the items of a word in a font: over the table that compile writes of it, from a fresh state
abbrev pub font_items : Font → List ℕ → RunOptions → Reply
font_items f word options = run_items (font_table f) (font_ops f) f.boundary word options (fresh_state word options)

-- two runs come to their end, and give the same items
abbrev pub same_items : Reply → Reply → Bool
same_items a b = both (eqb a.number 0) (both (eqb b.number 0) (same_numbers a.values b.values))
