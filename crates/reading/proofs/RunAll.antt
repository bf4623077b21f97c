-- The run as one list: all that a run gives, over any table, and that its answers are that list in order.
-- Assumes nothing.
use mathlib.Core.Path.{◌≡◌, refl, sym}
use mathlib.Core.Bool.{Bool, true, false}
use mathlib.Core.List.{List, [], ◌∷◌, ◌++◌}
use mathlib.Core.Option.{Option, none, some}
use Prim.Native.Nat.{ℕ, zero, suc}
use Rattle.reading.specs.Items.{Item, item, inserted, Head, edge, at, Out, glyph}
use Rattle.reading.specs.Reading.{remains}
use Rattle.reading.specs.Depth.{Finished}
use Rattle.reading.specs.Run.{PlainNext, left, final, stop, Run, PlainAnswer, look_up, plain_after_right, given, step_from, step, begin, plain_answers}
use Rattle.reading.specs.Run.{in_order}

-- the word's end: what the last left gives with the right item, where there is one
abbrev pub end_gives : Finished → Option ℕ → Head → List Out
end_gives table right edge = []
end_gives table none (at x) = remains none (at x)
end_gives table (some r) (at x) = (look_up table (at x) r).outs ++ remains (some r) (at (look_up table (at x) r).last)

-- a left with the rest of the word
unfoldable pub left_gives : Finished → Option ℕ → List ℕ → Head → List Out
left_gives table right [] x = end_gives table right x
left_gives table right (y ∷ ys) x = (look_up table x y).outs ++ left_gives table right ys (at (look_up table x y).last)

abbrev pub next_gives : Finished → Option ℕ → List ℕ → PlainNext → List Out
next_gives table right rest (left x) = left_gives table right rest x
next_gives table right rest (final c) = glyph (inserted c) ∷ []
next_gives table right rest stop = []

-- All that a run gives from this state on.
abbrev pub gives : Finished → Option ℕ → Run → List Out
gives table right s = s.ops ++ next_gives table right s.rest s.next

-- An answer that begins the list os, or the end where os is empty: its item and what its state gives are os.
abbrev Begins : Finished → Option ℕ → List Out → PlainAnswer → Type 0
Begins table right os a = (m : ℕ) → in_order (suc m) os ≡ a.gives ∷ in_order m (gives table right a.run)

-- a step after the right item was looked up
after_right_lem : (table : Finished) (right : Option ℕ) (r : ℕ) (os : List Out) (x : Item) →
    Begins table right (os ++ remains (some r) (at x)) (given os (plain_after_right x) [])
unfolding in_order
after_right_lem table right r [] (item true c) m = refl
after_right_lem table right r [] (item false c) m = refl
after_right_lem table right r (o ∷ os) (item true c) m = refl
after_right_lem table right r (o ∷ os) (item false c) m = refl

-- one step gives the first of the list, and leaves the rest of it
one_step : (table : Finished) (right : Option ℕ) (rest : List ℕ) (ops : List Out) (next : PlainNext) →
    Begins table right (ops ++ next_gives table right rest next) (step_from table right rest ops next)
unfolding in_order step_from left_gives
one_step table right [] (o ∷ os) next m = refl
one_step table right (y ∷ ys) (o ∷ os) next m = refl
one_step table right [] [] (final c) m = refl
one_step table right (y ∷ ys) [] (final c) m = refl
one_step table right [] [] stop m = refl
one_step table right (y ∷ ys) [] stop m = refl
one_step table right [] [] (left edge) m = refl
one_step table none [] [] (left (at x)) m = refl
one_step table (some r) [] [] (left (at x)) m = after_right_lem table (some r) r (look_up table (at x) r).outs (look_up table (at x) r).last m
one_step table right (y ∷ ys) [] (left x) m = one_step table right ys (look_up table x y).outs (left (at (look_up table x y).last)) m

-- The answers of a run are its list in order, and then the end for ever.
pub answers_give : (table : Finished) (right : Option ℕ) (m : ℕ) (s : Run) → plain_answers table right m s ≡ in_order m (gives table right s)
unfolding plain_answers in_order
answers_give table right zero s = refl
answers_give table right (suc m) s = rw (answers_give table right m (step table right s).run) (sym (one_step table right s.rest s.ops s.next m))

-- Every run ends, over any table.
pub run_ends : (table : Finished) (b : Bool) (word : List ℕ) (right : Option ℕ) →
    (os : List Out) × ((m : ℕ) → plain_answers table right m (begin b word) ≡ in_order m os)
run_ends table b word right = (gives table right (begin b word), λ m. answers_give table right m (begin b word))
