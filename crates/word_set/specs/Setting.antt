-- A word set whole (R131 to R134): the items of a run up to its end, six numbers each as a T line has them. The contract of `set_word`.
use Rattle.std.specs.Prelude.{◌≡◌, List, [], ◌∷◌, ◌++◌, ℕ, zero, suc, ◌/◌, ℤ, pos, length}
use Rattle.lang.specs.declared.Written.{Written}
use Rattle.lang.specs.Answers.{Reply, reply_of, list_of, written_reply}
use Rattle.captions.specs.declared.RunOptions.{RunOptions}
use Rattle.captions.specs.declared.State.{State}
use Rattle.captions.specs.declared.Answer.{Answer}
use Rattle.captions.specs.declared.Answer.TheVariants.{Char, Ligature, Kern, End, Refused}
use Rattle.captions.specs.declared.Step.{Step}
use Rattle.captions.specs.Replies.{answer_reply}
use Rattle.captions.specs.Begin.{begin_refusal, fresh_state}
use Rattle.captions.specs.Steps.{step_of}

-- an item's numbers before those of the items after it; a refusal after it stays one
abbrev pub numbers_before : List ℤ → Reply → Reply
numbers_before vs r = reply_of r.number (vs ++ r.values)

-- by the answer of a step: an item and then what follows, the end, or the number of a refused step
abbrev pub and_then : Answer → Reply → Reply
and_then (Char c start) r = numbers_before (answer_reply (Char c start)).values r
and_then (Ligature c start n left right) r = numbers_before (answer_reply (Ligature c start n left right)).values r
and_then (Kern k) r = numbers_before (answer_reply (Kern k)).values r
and_then End r = reply_of 0 []
and_then (Refused k) r = record { number = k; values = [] }

-- the numbers of the items up to the end, by a step, from a state on; 15 where there are more than n items (R134)
unfoldable pub items_by : (State → Step) → ℕ → State → Reply
items_by step zero s = and_then (step s).answer (reply_of 15 [])
items_by step (suc n) s = and_then (step s).answer (items_by step n (step s).state)

-- .. by the steps of a run
abbrev pub items_from : List ℤ → List ℤ → ℤ → List ℕ → RunOptions → ℕ → State → Reply
items_from pairs ops boundary word options = items_by (step_of pairs ops boundary word options)

-- by the number of begin: a run that began, or the number alone
abbrev pub after_begin : ℕ → Reply → Reply
after_begin zero r = r
after_begin (suc k) r = record { number = suc k; values = [] }

-- begin's numbers first; then the items of the run, of which a list of `room` numbers holds room / 6 (R134)
abbrev pub set_reply : List ℤ → List ℤ → ℤ → List ℕ → RunOptions → ℕ → Reply
set_reply pairs ops boundary word options room =
    after_begin (begin_refusal pairs ops boundary word options)
    (items_from pairs ops boundary word options (room / 6) (fresh_state word options))

-- the contract of set_word: how many items there are, and their numbers and zeros; or the number, and zeros
pub record Sets (pairs ops : List ℤ) (boundary : ℤ) (word : List ℕ) (options : RunOptions) (items : List ℤ) (r : Written)
    (items' : List ℤ) : Type 0 where
  pub answer : written_reply r ≡
      reply_of (set_reply pairs ops boundary word options (length items)).number
      (pos (length (set_reply pairs ops boundary word options (length items)).values / 6) ∷ [])
  pub list : items' ≡
      list_of (set_reply pairs ops boundary word options (length items)).number (pos 0) (length items)
      (set_reply pairs ops boundary word options (length items)).values
