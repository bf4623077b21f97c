use Rattle.std.proofs.Common.{◌≡◌, ℕ, ◌+◌, get_or}
use lib.IntN.{pos}
use Rattle.words.specs.Words.{number_of}
use Rattle.words.specs.Lists.{Filling}
use Rattle.read_change.specs.Fitted.{with_two}
use Rattle.read_change.proofs.places.insert.Given as goal

-- the places passed are written, the rest is as it came, and the next two numbers are at hand
abbrev pub invariant-loop-i : goal.invariant-loop-i
invariant-loop-i l =
    Filling (λ (k : ℕ). get_or (with_two l.initial.i (number_of l.first) (number_of l.second) l.fn.s) k (pos 0)) l.fn.s l.s l.i
    × (number_of l.a ≡ get_or (with_two l.initial.i (number_of l.first) (number_of l.second) l.fn.s) l.i (pos 0))
    × (number_of l.b ≡ get_or (with_two l.initial.i (number_of l.first) (number_of l.second) l.fn.s) (l.i + 1) (pos 0))
