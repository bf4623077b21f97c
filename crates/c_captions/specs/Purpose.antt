-- What a host in C sees through the lists is what demand 3 (R14 to R23) speaks of. Each type here is a statement; proofs/Theorems proves
-- it.
use Rattle.std.specs.Prelude.{◌≡◌, List, [], ◌∷◌, ◌++◌, map, ℕ, suc, ◌*◌, ◌≤◌, ℤ, pos, length, get_or, take}
use Rattle.std.proofs.Math.Option.{some}
use Rattle.lang.specs.Answers.{list_of}
use Rattle.reading.specs.Items.{Out}
use Rattle.fonts.specs.Fonts.{Font}
use Rattle.captions.specs.declared.RunOptions.{RunOptions}
use Rattle.captions.specs.declared.State.{State}
use Rattle.captions.specs.declared.Answer.{Answer}
use Rattle.captions.specs.declared.Begun.TheVariants.{Run}
use Rattle.captions.specs.Replies.{next_code, state_numbers, answer_reply}
use Rattle.captions.specs.Begin.{begin_of}
use Rattle.captions.specs.Runs.{answers, shown, then_ends}
use Rattle.captions.specs.Demand3.{Answered, Demand3}
use Rattle.c_compile.specs.Counts.{CompilesCounts}
use Rattle.c_states.specs.States.{numbers_of, state_read}
use Rattle.c_captions.specs.Begin.{BeginsRun}
use Rattle.c_steps.specs.Step.{item_numbers, StepsRun}

-- ---- a state in a list

-- the nine numbers are those that begin's reply has
abbrev pub SameNumbers : Type 0
SameNumbers = (s : State) → map pos (numbers_of s) ≡ state_numbers s

-- a state whose code is a u32 is read back from its numbers, whatever stands after them
abbrev pub ReadsBack : Type 0
ReadsBack = (s : State) (rest : List ℕ) → next_code s.next_left ≤ 4294967295 → state_read (numbers_of s ++ rest) ≡ some s

-- ---- any number of calls

-- what a host sees of a call of ligkern_step: its number, and what the list of the item then holds
pub record Call : Type 0 where
  pub number : ℕ
  pub item : List ℤ

-- an answer, as it is seen in a list of `room` numbers
abbrev pub seen : ℕ → Answer → Call
seen room a = record { number = (answer_reply a).number; item = list_of (answer_reply a).number (pos 0) room (item_numbers a) }

-- n calls of ligkern_step, each on the list that the last one left, and each lent `room` numbers for its item
pub data HostCalls (pairs ops : List ℤ) (boundary : ℤ) (word : List ℕ) (options : RunOptions) (room : ℕ) : ℕ → List ℕ → List Call →
    Type 0 where
  done : {state : List ℕ} → HostCalls pairs ops boundary word options room 0 state []
  call : {n r : ℕ} {state state' : List ℕ} {item item' : List ℤ} {calls : List Call} →
      length item ≡ room → StepsRun pairs ops boundary word options state item r state' item' →
      HostCalls pairs ops boundary word options room n state' calls →
      HostCalls pairs ops boundary word options room (suc n) state (record { number = r; item = item' } ∷ calls)

-- from a list that holds a state, n calls answer what n steps from that state answer
abbrev pub HostCallsAnswer : Type 0
HostCallsAnswer =
    (pairs ops : List ℤ) (boundary : ℤ) (word : List ℕ) (options : RunOptions) (room : ℕ) → 7 ≤ room →
    (n : ℕ) (state : List ℕ) (s : State) (calls : List Call) → state_read state ≡ some s →
    HostCalls pairs ops boundary word options room n state calls →
    calls ≡ map (seen room) (answers pairs ops boundary word options n s)

-- ---- demand 3

-- a font that ligkern_compile accepts, at whatever size: demand 3 holds of what the host reads in the counts and cuts its lists to
abbrev pub EveryHostFont : Type 0
EveryHostFont =
    (f : Font) (size : ℕ) (pairs ops loops : List ℤ) (work counts : List ℕ) (pairs' ops' loops' : List ℤ) (work' counts' : List ℕ) →
    CompilesCounts f size pairs ops loops work counts 0 pairs' ops' loops' work' counts' →
    Demand3 f (get_or counts' 2 0) (take (6 * get_or counts' 0 0) pairs') (take (2 * get_or counts' 1 0) ops')
    (take (2 * get_or counts' 2 0) loops')

-- n calls see the answers of n steps from the state that begin returns, with originals and flags; and these are the items, by kind and by
-- code or scaled kern (R22), and then the end
pub record Sees (pairs ops : List ℤ) (boundary : ℤ) (word : List ℕ) (options : RunOptions) (items : List Out) (room n : ℕ)
    (calls : List Call) : Type 0 where
  pub start : State
  pub begins : begin_of pairs ops boundary word options ≡ Run start
  pub seen_as : calls ≡ map (seen room) (answers pairs ops boundary word options n start)
  pub same : map shown (answers pairs ops boundary word options n start) ≡ then_ends n items

-- where demand 3 says that a run answers these items, ligkern_begin, lent a list with room for a state, is not refused, and any number
-- of calls of ligkern_step on that list, each lent a list with room for an item, see them and then the end
abbrev pub EveryRun : Type 0
EveryRun =
    (f : Font) (pairs ops : List ℤ) (word : List ℕ) (options : RunOptions) (items : List Out) → Answered f pairs ops word options items →
    (state : List ℕ) (r : ℕ) (state' : List ℕ) → 9 ≤ length state → BeginsRun pairs ops f.boundary word options state r state' →
    (r ≡ 0)
    × ((room n : ℕ) → 7 ≤ room → (calls : List Call) → HostCalls pairs ops f.boundary word options room n state' calls →
    Sees pairs ops f.boundary word options items room n calls)
