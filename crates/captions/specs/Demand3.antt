-- Demand 3 (R14 to R23), of the whole list, in the terms of the calls. `Compiles` is the contract of compile, and begin's and step's
-- contracts say that they answer `beginOf` and `step_of` (proofs/Replies); `answers` are n steps, each handed the state that the last one
-- returned. What is proved of an accepted font is the record `Demand3`; the statement whole is `EveryAcceptedFont`, at the end.
use Rattle.std.specs.Prelude.{◌≡◌, Bool, true, not, ◌↔◌, ℕ, ◌*◌, ◌<◌, ◌≤◌, ℤ, pos, negsuc, eqb, length, get_or, take}
use mathlib.Core.List.{List, map, Memᴰ}
use Rattle.lang.specs.Every.{every}
use Rattle.lang.specs.Checks.{is_letter}
use Rattle.reading.specs.Items.{Left, Out}
use Rattle.reading.specs.Reading.{reading, ended, NeverEnds, Ends}
use Rattle.reading.specs.Depth.{Pair}
use Rattle.fonts.specs.Fonts.{number_of_left, Font, rules_of}
use Rattle.fonts.specs.declared.Compiled.TheVariants.{Tables}
use Rattle.fonts.specs.Numbers.{loop_numbers}
use Rattle.fonts.specs.Compiled.{Compiles}
use Rattle.captions.specs.declared.RunOptions.{RunOptions}
use Rattle.captions.specs.declared.State.{State}
use Rattle.captions.specs.declared.Begun.TheVariants.{Run}
use Rattle.captions.specs.Begin.{begin_of}
use Rattle.captions.specs.Steps.{right_item}
use Rattle.captions.specs.Runs.{answers, shown, then_ends}

-- an override: -1, or a letter
abbrev pub override_fits : ℤ → Bool
override_fits (pos c) = is_letter c
override_fits (negsuc n) = eqb n 0

-- a word of at most 65,535 letters (R371), either boundary choice, any override that is a letter or -1 (R17)
pub record Caption (word : List ℕ) (options : RunOptions) : Type 0 where
  pub letters_fit : every (length word) (λ i. is_letter (get_or word i 0)) ≡ true
  pub word_fits : length word ≤ 65535
  pub override_fits_lem : override_fits options.right_boundary_override ≡ true

-- Begin, lent these pairs and ops and the font's boundary character (R15), is not refused; and for every n the answers of the n steps from
-- it (R16) are the first n of the items, by kind and by code or scaled kern (R22), followed by the end at each step. So no step is refused.
pub record Answered (f : Font) (pairs ops : List ℤ) (word : List ℕ) (options : RunOptions) (items : List Out) : Type 0 where
  pub start : State
  pub begins : begin_of pairs ops f.boundary word options ≡ Run start
  pub answered : (n : ℕ) → map shown (answers pairs ops f.boundary word options n start) ≡ then_ends n items

-- the reading of the word ends, and gives these items
pub record Reads (f : Font) (word : List ℕ) (options : RunOptions) (items : List Out) : Type 0 where
  pub steps : ℕ
  pub reads : reading (rules_of f) steps (not options.disable_left_boundary) word
      (right_item f.boundary options.right_boundary_override) ≡ ended items

-- a pair of a left of -1 to 255 and a right of 0 to 255 that never ends (R18)
pub record Loop (f : Font) : Type 0 where
  pub left : Left
  pub right : ℕ
  pub left_fits : number_of_left left < 257
  pub right_fits : right < 256
  pub never : NeverEnds (rules_of f) left right

-- Of a font that compile accepts: l loops, and the pairs, ops and loop list that it wrote, without the zeroed rest.
pub record Demand3 (f : Font) (l : ℕ) (pairs ops loops : List ℤ) : Type 0 where
  -- the loop list is a list of l pairs, and every pair that is reported, a left of -1 to 255 and a right of 0 to 255, never ends (R19)
  pub reported : List Pair
  pub loop_list_lem : (loops ≡ loop_numbers reported) × (length reported ≡ l)
  pub reported_never : (q : Pair) → Memᴰ q reported →
      (number_of_left q.left < 257) × (q.right < 256) × NeverEnds (rules_of f) q.left q.right
  -- a loop is reported exactly when some pair never ends; none exactly when every pair ends (R18)
  pub some_loop : (0 < l) ↔ Loop f
  pub no_loop : (l ≡ 0) ↔ ((x : Left) (y : ℕ) → Ends (rules_of f) x y)
  -- where none is reported, the reading of every word ends, and the run gives its items in order, then the end for ever (R20, R21)
  pub set_as_read : l ≡ 0 → (word : List ℕ) (options : RunOptions) → Caption word options →
      (items : List Out) × Reads f word options items × Answered f pairs ops word options items
  -- loops or not: no step is refused, and every run ends; and whatever the reading of the word gives once it ends, the run gives (R23)
  pub run_ends : (word : List ℕ) (options : RunOptions) → Caption word options →
      (items : List Out) × Answered f pairs ops word options items
  pub run_reads : (word : List ℕ) (options : RunOptions) → Caption word options → (items : List Out) →
      Reads f word options items → Answered f pairs ops word options items

-- DEMAND 3, whole (R14): whatever font compile is lent, with whatever lists and at whatever size, if its answer is no refusal then
-- `Demand3` holds of what it answered and wrote: of the count of its loops, and of the pairs, ops and loops cut to their counts. `size` is
-- the number of the size asked for, by which compile may refuse too. Proved: `demand-3` of proofs/Theorems.
abbrev pub EveryAcceptedFont : Type 0
EveryAcceptedFont =
    (f : Font) (size : ℕ) (pairs ops loops : List ℤ) (work : List ℕ) (p o l : ℕ) (pairs' ops' loops' : List ℤ) (work' : List ℕ) →
    Compiles f size pairs ops loops work (Tables p o l) pairs' ops' loops' work' →
    Demand3 f l (take (6 * p) pairs') (take (2 * o) ops') (take (2 * l) loops')
