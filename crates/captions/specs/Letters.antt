-- No letter lost (R381 to R386): the characters' own letters and the ligatures' originals, joined in the order in which the steps give
-- them, are the word, each letter once. What is proved is the record `NoLetterLost`; the statements whole are `EveryFormedTable` and
-- `EveryWrittenTable`, at the end.
use Rattle.std.specs.Prelude.{◌≡◌, true, List, [], ◌∷◌, ◌++◌, ℕ, zero, suc, ◌+◌, ◌*◌, ◌≤◌, ℤ, length, take}
use Rattle.std.proofs.Math.Option.{Option, none, some}
use Rattle.lang.specs.Records.{absent_or}
use Rattle.fonts.specs.Fonts.{Font}
use Rattle.fonts.specs.declared.Compiled.TheVariants.{Tables}
use Rattle.fonts.specs.Compiled.{Compiles}
use Rattle.captions.specs.declared.RunOptions.{RunOptions}
use Rattle.captions.specs.declared.State.{State}
use Rattle.captions.specs.declared.Answer.{Answer}
use Rattle.captions.specs.declared.Answer.TheVariants.{Char, Ligature, Kern, End, Refused}
use Rattle.captions.specs.declared.Begun.TheVariants.{Run}
use Rattle.captions.specs.Form.{table_refusal}
use Rattle.captions.specs.Begin.{begin_refusal, begin_of}
use Rattle.captions.specs.Steps.{step_of}
use Rattle.captions.specs.Runs.{answers}
use Rattle.captions.specs.Queries.{original_of}
use Rattle.captions.specs.Demand3.{Caption}

-- ---- the letters of an answer (R381)

-- of a character its own letter, of a ligature its original; a kern, the end and a refusal have none
abbrev pub answer_letters : List ℕ → Answer → List ℕ
answer_letters word (Char c start) = c ∷ []
answer_letters word (Ligature c start n left right) = original_of word start n
answer_letters word (Kern k) = []
answer_letters word End = []
answer_letters word (Refused n) = []

-- the letters of answers, one after the other
unfoldable pub joined : List ℕ → List Answer → List ℕ
joined word [] = []
joined word (a ∷ others) = answer_letters word a ++ joined word others

-- where an item's original starts; a kern has none
abbrev pub item_start : Answer → Option ℕ
item_start (Char c start) = some start
item_start (Ligature c start n left right) = some start
item_start (Kern k) = none
item_start End = none
item_start (Refused n) = none

-- ---- a run

-- the state after n steps
unfoldable pub state_after : List ℤ → List ℤ → ℤ → List ℕ → RunOptions → ℕ → State → State
state_after pairs ops boundary word options zero s = s
state_after pairs ops boundary word options (suc n) s =
    state_after pairs ops boundary word options n (step_of pairs ops boundary word options s).state

-- the answer after the first n
abbrev pub answer_after : List ℤ → List ℤ → ℤ → List ℕ → RunOptions → ℕ → State → Answer
answer_after pairs ops boundary word options n s =
    (step_of pairs ops boundary word options (state_after pairs ops boundary word options n s)).answer

-- Of a table, a boundary character, a word and options:
pub record NoLetterLost (pairs ops : List ℤ) (boundary : ℤ) (word : List ℕ) (options : RunOptions) : Type 0 where
  -- begin is not refused, and no step is (R382)
  pub start : State
  pub begins : begin_of pairs ops boundary word options ≡ Run start
  pub not_refused : (n k : ℕ) → answer_after pairs ops boundary word options n start ≡ Refused k → ⊥
  -- after n steps the letters joined are the first letters of the word, as many as the state has given (R383)
  pub within_word : (n : ℕ) → (state_after pairs ops boundary word options n start).given ≤ length word
  pub first_letters_lem : (n : ℕ) →
      joined word (answers pairs ops boundary word options n start) ≡ take (state_after pairs ops boundary word options n start).given word
  -- each item but a kern starts at the number of letters joined before it (R384)
  pub starts : (n start_at : ℕ) → item_start (answer_after pairs ops boundary word options n start) ≡ some start_at →
      start_at ≡ length (joined word (answers pairs ops boundary word options n start))
  -- from some number of steps on the letters are the whole word, and every further answer is the end (R385)
  pub steps : ℕ
  pub whole_word : (n : ℕ) → joined word (answers pairs ops boundary word options (steps + n) start) ≡ word
  pub then_end : (n : ℕ) → answer_after pairs ops boundary word options (steps + n) start ≡ End

-- NO LETTER LOST, whole: of every table of the form, whatever wrote it, with any boundary character of -1 to 255, of every word, either
-- boundary choice and any override (R386). Proved: `every-formed-table` of proofs/Theorems.
abbrev pub EveryFormedTable : Type 0
EveryFormedTable =
    (pairs ops : List ℤ) (boundary : ℤ) → table_refusal pairs ops ≡ 0 → absent_or 255 boundary ≡ true →
    (word : List ℕ) (options : RunOptions) → Caption word options → NoLetterLost pairs ops boundary word options

-- That is all that begin asks: so whatever begin is lent, where it is not refused no letter is lost. Proved: `every-run-begun`.
abbrev pub EveryRunBegun : Type 0
EveryRunBegun =
    (pairs ops : List ℤ) (boundary : ℤ) (word : List ℕ) (options : RunOptions) → begin_refusal pairs ops boundary word options ≡ 0 →
    NoLetterLost pairs ops boundary word options

-- So of the table that compile wrote, cut to its counts, whether the font has loops or not: a pair that never ends has no entry (R386).
-- Proved: `every-written-table` of proofs/Theorems.
abbrev pub EveryWrittenTable : Type 0
EveryWrittenTable =
    (f : Font) (size : ℕ) (pairs ops loops : List ℤ) (work : List ℕ) (p o l : ℕ) (pairs' ops' loops' : List ℤ) (work' : List ℕ) →
    Compiles f size pairs ops loops work (Tables p o l) pairs' ops' loops' work' →
    (word : List ℕ) (options : RunOptions) → Caption word options →
    NoLetterLost (take (6 * p) pairs') (take (2 * o) ops') f.boundary word options
