-- What the code goes by (R476): inside a step only one turn goes on to a free state that was not free before, that of a left boundary whose
-- entry gives nothing. No entry that compile writes does; one of a lent table of the form may. Proved: proofs/Theorems.
use Rattle.std.specs.Prelude.{◌≡◌, true, cond, List, ℕ, ℤ, ltb, eqb, length, get_or}
use Rattle.std.proofs.Math.Option.{Option, none, some}
use Rattle.lang.specs.Every.{both}
use Rattle.captions.specs.declared.RunOptions.{RunOptions}
use Rattle.captions.specs.declared.NextLeft.{NextLeft}
use Rattle.captions.specs.declared.NextLeft.TheVariants as next
use Rattle.captions.specs.declared.State.{State}
use Rattle.captions.specs.Tables.{record_fits}
use Rattle.captions.specs.Steps.{find_within, entered_at, gives_nothing}
use Rattle.font_runs.specs.Requests.{LentFont}
use Rattle.font_runs.specs.Changes.{free_state, right_in, first_free}

-- by the pair of the left boundary and the next letter: past it where its entry fits and gives nothing
abbrev pub passed_by : List ℤ → List ℤ → State → Option ℕ → State
passed_by pairs ops s none = s
passed_by pairs ops s (some k) = cond (both (record_fits pairs ops k) (gives_nothing pairs k)) (entered_at pairs next.Boundary true s k) s

-- by the next left
abbrev pub passed_left : List ℤ → List ℤ → List ℕ → State → NextLeft → State
passed_left pairs ops word s next.Boundary =
    cond (ltb s.read (length word)) (passed_by pairs ops s (find_within pairs 0 (get_or word s.read 0))) s
passed_left pairs ops word s (next.Char c) = s
passed_left pairs ops word s (next.Lig c) = s
passed_left pairs ops word s (next.FinalLig c) = s
passed_left pairs ops word s next.None = s

-- the state after that one turn, where it stands; else the state itself
abbrev pub passed : LentFont → List ℕ → State → State
passed font word s = cond (eqb s.ops 0) (passed_left font.pairs font.ops word s s.next_left) s

-- THE law, for any font, word, options and state: the first free state of a step, if there is one, is that
abbrev pub OnlyBoundaryPasses : Type 0
OnlyBoundaryPasses =
    (font : LentFont) (word : List ℕ) (options : RunOptions) (s : State) →
    first_free font word options s ≡
    cond (free_state font.pairs (right_in font options) word (passed font word s)) (some (passed font word s)) none
