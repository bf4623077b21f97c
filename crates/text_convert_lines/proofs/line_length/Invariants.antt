use mathlib.Core.Path.{◌≡◌}
use Prim.Native.Nat.{◌+◌}
use lib.ListN.{drop}
use Rattle.text_convert_lines.specs.Anew.{line_length}
use Rattle.text_convert_lines.proofs.line_length.Given as goal

-- the bytes passed are of the first line
abbrev pub invariant-loop-n : goal.invariant-loop-n
invariant-loop-n l = l.n + line_length (drop l.n l.text) ≡ line_length l.text
