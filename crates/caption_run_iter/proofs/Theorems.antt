-- Any number of calls of `next`: the statements are specs/Reader. Assumes nothing.
use mathlib.Core.Path.{◌≡◌, refl, sym, ap, ◌∙◌}
use mathlib.Core.List.{List, [], ◌∷◌, map}
use Prim.Native.Nat.{ℕ, zero, suc, ◌+◌, ◌*◌}
use lib.IntN.{ℤ}
use lib.ListN.{length, take}
use lib.Seq.{length-take-le}
use Rattle.reading.specs.Items.{Out}
use Rattle.fonts.specs.Fonts.{Font}
use Rattle.captions.specs.declared.RunOptions.{RunOptions}
use Rattle.captions.specs.declared.State.{State}
use Rattle.captions.specs.declared.Answer.{Answer}
use Rattle.captions.specs.Runs.{answers, shown, then_ends}
use Rattle.captions.specs.Demand3 as steps
use Rattle.captions.specs.Letters.{joined, state_after}
use Rattle.captions.proofs.Theorems.{demand_3, every_run_begun}
use Rattle.caption_run_iter.specs.declared.RunIter.{RunIter}
use Rattle.caption_run_iter.specs.Reader.{next_answer, next_state, Calls, none, call, nexts, CallsAnswer, SameAsSteps, ReaderAnswered, ReaderReads}
use Rattle.caption_run_iter.specs.Reader.{EveryReaderRun}

-- by the contract, the rest of the calls go on from the next state, on the same word
pub calls_answer : CallsAnswer
unfolding nexts
calls_answer pairs ops boundary options zero r [] none = refl
calls_answer pairs ops boundary options zero r (a ∷ others) x'' = elim x'' [ ]
calls_answer pairs ops boundary options (suc n) r [] x3 = elim x3 [ ]
calls_answer pairs ops boundary options (suc n) r (a ∷ others) (call {r' = r'} m c) =
    let rest = calls_answer pairs ops boundary options n r' others c in
    λ i. m.answer i ∷ (rest ∙ (λ j. nexts pairs ops boundary (m.word j).now options n (m.state j))) i

pub same_as_steps : SameAsSteps
unfolding nexts answers
same_as_steps pairs ops boundary word options zero s = refl
same_as_steps pairs ops boundary word options (suc n) s =
    ap (λ (others : List Answer). next_answer pairs ops boundary word options s ∷ others)
    (same_as_steps pairs ops boundary word options n (next_state pairs ops boundary word options s))

-- what the steps of a run answer, the calls answer
pub by_calls : (f : Font) (pairs ops : List ℤ) (word : List ℕ) (options : RunOptions) (items : List Out) → steps.Answered f pairs ops word options items →
    ReaderAnswered f pairs ops word options items
by_calls f pairs ops word options items d =
    let answered : (n : ℕ) →
    map shown (nexts pairs ops f.boundary word options n d.start)
    ≡ then_ends n items = λ n. ap (map shown) (same_as_steps pairs ops f.boundary word options n d.start) ∙ d.answered n in
    record {
      start = d.start;
      begins = d.begins;
      answered = answered;
      called = λ n r given w s c.
          ap (map shown) (calls_answer pairs ops f.boundary options n r given c ∙ (λ i. nexts pairs ops f.boundary (w i) options n (s i))) ∙ answered n;
    }

pub reader_reads : ReaderReads
reader_reads f size pairs ops loops work p o l pairs' ops' loops' work' c word options caption =
    let d = demand_3 f size pairs ops loops work p o l pairs' ops' loops' work' c in
    let give = by_calls f (take (6 * p) pairs') (take (2 * o) ops') word options in
    let ends = d.run_ends word options caption in
    record {
      set_as_read = λ z. let r = d.set_as_read z word options caption in (r.0, r.1, give r.0 r.2);
      run_ends = (ends.0, give ends.0 ends.1);
      run_reads = λ items r. give items (d.run_reads word options caption items r);
    }

-- the answers of the calls are those of the steps
calls_steps : (pairs ops : List ℤ) (boundary : ℤ) (word : List ℕ) (options : RunOptions) (n : ℕ) (s : State) (r : RunIter) (given : List Answer) →
    r.word.now ≡ word → r.state ≡ s → Calls pairs ops boundary options n r given → given ≡ answers pairs ops boundary word options n s
calls_steps pairs ops boundary word options n s r given w e c =
    calls_answer pairs ops boundary options n r given c ∙ (λ i. nexts pairs ops boundary (w i) options n (e i))
    ∙ same_as_steps pairs ops boundary word options n s

pub every_reader_run : EveryReaderRun
every_reader_run pairs ops boundary word options z =
    let l = every_run_begun pairs ops boundary word options z in
    record {
      start = l.start;
      begins = l.begins;
      first_letters_lem = λ n r given w e c.
          let g = (state_after pairs ops boundary word options n l.start).given in
          let is : joined word given ≡ take g word =
          ap (joined word) (calls_steps pairs ops boundary word options n l.start r given w e c) ∙ l.first_letters_lem n in
          let long : g ≡ length (joined word given) = sym (ap length is ∙ length-take-le g word (l.within_word n)) in
          is ∙ ap (λ (i : ℕ). take i word) long;
      calls = l.steps;
      whole_word = λ n r given w e c.
          ap (joined word) (calls_steps pairs ops boundary word options (l.steps + n) l.start r given w e c) ∙ l.whole_word n;
    }
