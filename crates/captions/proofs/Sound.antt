-- A state that a run over a table of the form can be in, and the plain run that it stands for: ops still to be given, the next left, the letters not read.
-- Assumes nothing.
use mathlib.Core.Path.{◌≡◌}
use mathlib.Core.Bool.{Bool, true, false, cond}
use mathlib.Core.List.{List}
use mathlib.Core.Option.{Option, none, some}
use Prim.Native.Nat.{ℕ, zero, suc, ◌+◌, ◌≤◌}
use lib.IntN.{ℤ}
use lib.ListN.{length, drop}
use Rattle.lang.specs.Every.{both}
use Rattle.reading.specs.Items.{plain, inserted, edge, at, Out}
use Rattle.reading.specs.Form.{no_plain}
use Rattle.reading.specs.Run as plainly
use Rattle.captions.specs.declared.NextLeft.{NextLeft}
use Rattle.captions.specs.declared.NextLeft.TheVariants as next
use Rattle.captions.specs.declared.Consumes.{Consumes}
use Rattle.captions.specs.declared.Consumes.TheVariants as consumes
use Rattle.captions.specs.declared.State.{State}
use Rattle.captions.specs.declared.Step.{Step}
use Rattle.captions.specs.Tables.{op_count, ops_from}
use Rattle.captions.specs.Steps.{left_letters, next_fits}
use Rattle.captions.specs.Runs.{Shown, shows, ends, shown}
use Rattle.captions.proofs.Raising.{raise_first, has_glyph, plain_first}

abbrev pub state : NextLeft → ℕ → ℕ → ℕ → ℕ → ℕ → Bool → Consumes → State
state n o m r g p b k =
    record { next_left = n; op = o; ops = m; read = r; given = g; pending = p; pending_boundary = b; consumes_left = k }

abbrev pub is_pending : ℕ → Bool
is_pending zero = false
is_pending (suc p) = true

-- letters that were read and that neither an item nor a pending ligature has yet: the next left's own
abbrev pub waiting : NextLeft → ℕ
waiting next.Boundary = 0
waiting (next.Char c) = 1
waiting (next.Lig c) = 1
waiting (next.FinalLig c) = 0
waiting next.None = 0

abbrev pub is_ligature : NextLeft → Bool
is_ligature next.Boundary = false
is_ligature (next.Char c) = false
is_ligature (next.Lig c) = true
is_ligature (next.FinalLig c) = true
is_ligature next.None = false

-- a left that is to be taken in is taken in by a character op, or by a last that is a ligature
abbrev pub carries : List Out → NextLeft → Bool
carries os n = cond (has_glyph os) true (is_ligature n)

-- a plain character op comes only while a letter or a pending ligature is to be given, and then first
abbrev pub mode : ℕ → Consumes → List Out → NextLeft → Bool
mode zero consumes.Nothing os n = no_plain os
mode zero consumes.Letter os n = both (plain_first os) (carries os n)
mode zero consumes.Boundary os n = no_plain os
mode (suc p) consumes.Nothing os n = both (plain_first os) (carries os n)
mode (suc p) consumes.Letter os n = false
mode (suc p) consumes.Boundary os n = false

-- ---- the plain run

abbrev pub next_of : NextLeft → plainly.PlainNext
next_of next.Boundary = plainly.left edge
next_of (next.Char c) = plainly.left (at (plain c))
next_of (next.Lig c) = plainly.left (at (inserted c))
next_of (next.FinalLig c) = plainly.final c
next_of next.None = plainly.stop

abbrev pub shown_of : Option Out → Shown
shown_of none = ends
shown_of (some o) = shows o

module _ (ops : List ℤ) (word : List ℕ) where
  pub record Sound (s : State) (os : List Out) : Type 0 where
    pub inside : s.read ≤ length word
    pub counted : s.given + (s.pending + left_letters s.consumes_left) + waiting s.next_left ≡ s.read
    pub among : s.op + s.ops ≤ op_count ops
    pub fits : next_fits s.next_left ≡ true
    pub holds : mode s.pending s.consumes_left os s.next_left ≡ true

  abbrev pub ops_of : State → List Out
  ops_of s = ops_from ops s.op s.ops

  abbrev pub run_of : State → plainly.Run
  run_of s =
      record { ops = raise_first (is_pending s.pending) (ops_of s); next = next_of s.next_left; rest = drop s.read word }

  -- a step answers as the plain run does, and leaves a state that stands for the plain run's
  pub record Follows (t : Step) (a : plainly.PlainAnswer) : Type 0 where
    pub answers : shown t.answer ≡ shown_of a.gives
    pub leaves : run_of t.state ≡ a.run
    pub sound : Sound t.state (ops_of t.state)
