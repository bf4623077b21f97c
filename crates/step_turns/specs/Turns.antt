-- The loop of a step (R286) while it runs: one turn of it, and what keeps its sums small.
use Rattle.std.specs.Prelude.{◌≡◌, true, cond, List, ℕ, suc, ◌+◌, ◌-◌, ◌*◌, ◌<◌, ◌≤◌, ℤ, eqb}
use Rattle.captions.specs.declared.NextLeft.{NextLeft}
use Rattle.captions.specs.declared.NextLeft.TheVariants as next
use Rattle.captions.specs.declared.State.{State}
use Rattle.captions.specs.declared.Turned.{Turned}
use Rattle.captions.specs.declared.Turned.TheVariants.{Gives}
use Rattle.captions.specs.Steps.{ended, give_ligature, read_op, with_nothing_next, next_fits}

-- no ops are to be given: a turn that answers, or goes on
abbrev pub turn_next : (NextLeft → State → Turned) → State → NextLeft → Turned
turn_next look s next.Boundary = look next.Boundary s
turn_next look s (next.Char c) = look (next.Char c) s
turn_next look s (next.Lig c) = look (next.Lig c) s
turn_next look s (next.FinalLig c) = Gives (give_ligature c true (with_nothing_next s))
turn_next look s next.None = Gives (ended s)

-- one turn of the loop, of any state
abbrev pub turn_once : List ℤ → (NextLeft → State → Turned) → State → Turned
turn_once ops look s = cond (eqb s.ops 0) (turn_next look s s.next_left) (Gives (read_op ops s))

-- 1 while a left is to be looked up
abbrev pub lefts : NextLeft → ℕ
lefts next.Boundary = 1
lefts (next.Char c) = 1
lefts (next.Lig c) = 1
lefts (next.FinalLig c) = 0
lefts next.None = 0

-- how many turns are left at most, in a word of n letters
abbrev pub turns_left : ℕ → State → ℕ
turns_left n s = n - s.read + lefts s.next_left

-- a state within a word of n letters and m ops, and no slice has more letters; each turn makes the pending ligature at most two letters
-- longer
pub record Within (n m : ℕ) (s : State) : Type 0 where
  pub short : n < 4611686018427387904
  pub read : s.read ≤ n
  pub pending : s.pending + 2 * turns_left n s ≤ 2 * suc n
  pub ops : s.op + s.ops ≤ m
  pub next : next_fits s.next_left ≡ true
