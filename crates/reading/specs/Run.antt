-- The plain run over a table of pairs: what setting a word gives, one item a step, without originals and flags of boundaries.
-- After `run_with_options` and `RunIter::next` of ligkern/mod.rs: pending ops first; then the next left is looked up with the next
-- letter, or at the word's end with the right item.
use Rattle.std.specs.Prelude.{Bool, true, false, List, [], ◌∷◌, ℕ, zero, suc}
use Rattle.std.proofs.Math.Option.{Option, none, some}
use Rattle.reading.specs.Items.{Item, item, flag, plain, inserted, Head, edge, at, key, Out, glyph, fin}
use Rattle.reading.specs.Depth.{Finished, Res, raised}

-- the next left: something to look up, a ligature that took the right item in, or nothing more
pub data PlainNext : Type 0 where
  left : Head → PlainNext
  final : ℕ → PlainNext
  stop : PlainNext

-- the state between two steps: ops still to be given, what is next, and the letters that were not read yet
pub record Run : Type 0 where
  pub ops : List Out
  pub next : PlainNext
  pub rest : List ℕ

-- what a step answers, and the state that it leaves
pub record PlainAnswer : Type 0 where
  pub gives : Option Out
  pub run : Run

-- whether what stands left of the cursor is a ligature; the boundary is none
abbrev pub head_flag : Head → Bool
head_flag edge = false
head_flag (at x) = flag x

-- the ops and the last of a left and a right: those of the table, or, where it has no entry (R115), the left finished and the right as it
-- came
abbrev pub entry_or : Option Res → Head → ℕ → Res
entry_or none x r = record { outs = fin x; last = plain r }
entry_or (some q) x r = raised (head_flag x) false q

-- what a left and a right become by the table
abbrev pub look_up : Finished → Head → ℕ → Res
look_up table x r = entry_or (table (key x) r) x r

-- at the word's end a right item that is left as it came gives nothing (R113)
abbrev pub plain_after_right : Item → PlainNext
plain_after_right (item true c) = final c
plain_after_right (item false c) = stop

-- a step that looks nothing up: an op, a last ligature, or the end
abbrev pub given : List Out → PlainNext → List ℕ → PlainAnswer
given (o ∷ os) next rest = record { gives = some o; run = record { ops = os; next = next; rest = rest } }
given [] (final c) rest = record { gives = some (glyph (inserted c)); run = record { ops = []; next = stop; rest = rest } }
given [] stop rest = record { gives = none; run = record { ops = []; next = stop; rest = rest } }
given [] (left x) rest = record { gives = none; run = record { ops = []; next = left x; rest = rest } }

-- the word's end (R112): the last left is looked up with the right item, where there is one
abbrev pub at_end : Finished → Option ℕ → Head → PlainAnswer
at_end table right edge = given [] (left edge) []
at_end table none (at x) = given (fin (at x)) stop []
at_end table (some r) (at x) = given (look_up table (at x) r).outs (plain_after_right (look_up table (at x) r).last) []

-- pending ops and a last ligature are given as they stand; only a left is looked up
abbrev pub or_look : List Out → PlainNext → List ℕ → (Head → PlainAnswer) → PlainAnswer
or_look (o ∷ os) next rest look = given (o ∷ os) next rest
or_look [] (final c) rest look = given [] (final c) rest
or_look [] stop rest look = given [] stop rest
or_look [] (left x) rest look = look x

-- one letter a turn, until an item can be given
unfoldable pub step_from : Finished → Option ℕ → List ℕ → List Out → PlainNext → PlainAnswer
step_from table right [] ops next = or_look ops next [] (at_end table right)
step_from table right (y ∷ ys) ops next =
    or_look ops next (y ∷ ys)
    (λ x. step_from table right ys (look_up table x y).outs (left (at (look_up table x y).last)))

-- one step of a run, with a right item or none
abbrev pub step : Finished → Option ℕ → Run → PlainAnswer
step table right s = step_from table right s.rest s.ops s.next

-- a fresh run over a word, with the left boundary or without
abbrev pub begin : Bool → List ℕ → Run
begin true word = record { ops = []; next = left edge; rest = word }
begin false [] = record { ops = []; next = stop; rest = [] }
begin false (c ∷ cs) = record { ops = []; next = left (at (plain c)); rest = cs }

-- the answers of n steps, each from the state that the last one left
unfoldable pub plain_answers : Finished → Option ℕ → ℕ → Run → List (Option Out)
plain_answers table right zero s = []
plain_answers table right (suc n) s = (step table right s).gives ∷ plain_answers table right n (step table right s).run

-- the first n of a list's items, and then the end for ever
unfoldable pub in_order : ℕ → List Out → List (Option Out)
in_order zero os = []
in_order (suc n) [] = none ∷ in_order n []
in_order (suc n) (o ∷ os) = some o ∷ in_order n os
