-- A reader that keeps the word it is given (R284); after `RunIter` of ligkern/mod.rs. What a call of `next` answers and leaves is
-- `MovesOn`, its contract; `Calls` are any number of calls, known by that contract alone, and `nexts` what they answer. What is proved of
-- them is at the end: `CallsAnswer`, `SameAsSteps`, `ReaderReads` and `EveryReaderRun`, in proofs/Theorems.
use Rattle.std.specs.Prelude.{◌≡◌, List, [], ◌∷◌, map, ℕ, zero, suc, ◌+◌, ◌*◌, ℤ, length, take}
use Rattle.reading.specs.Items.{Out}
use Rattle.fonts.specs.Fonts.{Font}
use Rattle.fonts.specs.declared.Compiled.TheVariants.{Tables}
use Rattle.fonts.specs.Compiled.{Compiles}
use Rattle.captions.specs.declared.RunOptions.{RunOptions}
use Rattle.captions.specs.declared.State.{State}
use Rattle.captions.specs.declared.Answer.{Answer}
use Rattle.captions.specs.declared.Begun.TheVariants.{Run}
use Rattle.captions.specs.Begin.{begin_refusal, begin_of}
use Rattle.captions.specs.Steps.{step_of}
use Rattle.captions.specs.Runs.{answers, shown, then_ends}
use Rattle.captions.specs.Demand3.{Caption, Reads}
use Rattle.captions.specs.Letters.{joined}
use Rattle.caption_run_iter.specs.declared.RunIter.{RunIter}

-- ---- a call

-- what a call answers, of a reader with this word at this state
abbrev pub next_answer : List ℤ → List ℤ → ℤ → List ℕ → RunOptions → State → Answer
next_answer pairs ops boundary word options s = (step_of pairs ops boundary word options s).answer

-- .. and the state in which it leaves the reader
abbrev pub next_state : List ℤ → List ℤ → ℤ → List ℕ → RunOptions → State → State
next_state pairs ops boundary word options s = (step_of pairs ops boundary word options s).state

-- THE contract of next: its answer, and the reader as it was and as it is left, at the next state of the same slice
pub record MovesOn (pairs ops : List ℤ) (boundary : ℤ) (options : RunOptions) (r : RunIter) (a : Answer) (r' : RunIter) : Type 0 where
  pub answer : a ≡ next_answer pairs ops boundary r.word.now options r.state
  pub state : r'.state ≡ next_state pairs ops boundary r.word.now options r.state
  pub word : r'.word ≡ r.word

-- ---- any number of calls

-- n calls of next, each on the reader that the last one left, and their answers
pub data Calls (pairs ops : List ℤ) (boundary : ℤ) (options : RunOptions) : ℕ → RunIter → List Answer → Type 0 where
  none : {r : RunIter} → Calls pairs ops boundary options zero r []
  call : {n : ℕ} {r r' : RunIter} {a : Answer} {others : List Answer} →
      MovesOn pairs ops boundary options r a r' → Calls pairs ops boundary options n r' others →
      Calls pairs ops boundary options (suc n) r (a ∷ others)

-- the answers of n calls, from a word and a state
unfoldable pub nexts : List ℤ → List ℤ → ℤ → List ℕ → RunOptions → ℕ → State → List Answer
nexts pairs ops boundary word options zero s = []
nexts pairs ops boundary word options (suc n) s =
    next_answer pairs ops boundary word options s
    ∷ nexts pairs ops boundary word options n (next_state pairs ops boundary word options s)

-- ---- what is proved

-- whatever meets the contract of next, n calls answer `nexts` of the reader's word and state
abbrev pub CallsAnswer : Type 0
CallsAnswer =
    (pairs ops : List ℤ) (boundary : ℤ) (options : RunOptions) (n : ℕ) (r : RunIter) (given : List Answer) →
    Calls pairs ops boundary options n r given → given ≡ nexts pairs ops boundary r.word.now options n r.state

-- n calls of next answer what n steps answer, for every table, boundary, word, options, state and n
abbrev pub SameAsSteps : Type 0
SameAsSteps =
    (pairs ops : List ℤ) (boundary : ℤ) (word : List ℕ) (options : RunOptions) (n : ℕ) (s : State) →
    nexts pairs ops boundary word options n s ≡ answers pairs ops boundary word options n s

-- Begin, lent these pairs and ops and the font's boundary character, is not refused; and for every n the answers of n calls of next, on the
-- word and from the state that begin returned, are the first n of the items, by kind and by code or scaled kern, followed by the end at
-- each call. The same of any n calls from any reader that holds that word and that state, as `run_iter` makes it.
pub record ReaderAnswered (f : Font) (pairs ops : List ℤ) (word : List ℕ) (options : RunOptions) (items : List Out) : Type 0 where
  pub start : State
  pub begins : begin_of pairs ops f.boundary word options ≡ Run start
  pub answered : (n : ℕ) → map shown (nexts pairs ops f.boundary word options n start) ≡ then_ends n items
  pub called : (n : ℕ) (r : RunIter) (given : List Answer) → r.word.now ≡ word → r.state ≡ start →
      Calls pairs ops f.boundary options n r given → map shown given ≡ then_ends n items

-- Demand 3 of the reader, of a font with l loops whose table this is, and of a word. Where there are no loops, the reading of the word
-- ends, and the calls of next give its items in order, then the end for ever (R20, R21). Loops or not: no call is refused, and every run
-- ends; and whatever the reading of the word gives once it ends, the calls give (R23).
pub record ReaderDemand3 (f : Font) (l : ℕ) (pairs ops : List ℤ) (word : List ℕ) (options : RunOptions) : Type 0 where
  pub set_as_read : l ≡ 0 → (items : List Out) × Reads f word options items × ReaderAnswered f pairs ops word options items
  pub run_ends : (items : List Out) × ReaderAnswered f pairs ops word options items
  pub run_reads : (items : List Out) → Reads f word options items → ReaderAnswered f pairs ops word options items

-- DEMAND 3 of the reader, whole: whatever font compile is lent, with whatever lists and at whatever size, if its answer is no refusal, then
-- that holds of the pairs and ops that it wrote, cut to their counts, and of every word
abbrev pub ReaderReads : Type 0
ReaderReads =
    (f : Font) (size : ℕ) (pairs ops loops : List ℤ) (work : List ℕ) (p o l : ℕ) (pairs' ops' loops' : List ℤ) (work' : List ℕ) →
    Compiles f size pairs ops loops work (Tables p o l) pairs' ops' loops' work' →
    (word : List ℕ) (options : RunOptions) → Caption word options →
    ReaderDemand3 f l (take (6 * p) pairs') (take (2 * o) ops') word options

-- No letter lost (R387), of the calls of next on this word from the state that begin returned, on any reader that holds them: the letters
-- of n answers are the first of the word, and from some number of calls on all of it.
pub record ReaderLetters (pairs ops : List ℤ) (boundary : ℤ) (word : List ℕ) (options : RunOptions) : Type 0 where
  pub start : State
  pub begins : begin_of pairs ops boundary word options ≡ Run start
  pub first_letters_lem : (n : ℕ) (r : RunIter) (given : List Answer) → r.word.now ≡ word → r.state ≡ start →
      Calls pairs ops boundary options n r given → joined word given ≡ take (length (joined word given)) word
  pub calls : ℕ
  pub whole_word : (n : ℕ) (r : RunIter) (given : List Answer) → r.word.now ≡ word → r.state ≡ start →
      Calls pairs ops boundary options (calls + n) r given → joined word given ≡ word

-- whatever begin is lent, where it is not refused
abbrev pub EveryReaderRun : Type 0
EveryReaderRun =
    (pairs ops : List ℤ) (boundary : ℤ) (word : List ℕ) (options : RunOptions) → begin_refusal pairs ops boundary word options ≡ 0 →
    ReaderLetters pairs ops boundary word options
