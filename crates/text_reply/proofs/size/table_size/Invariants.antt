use mathlib.Core.Path.{◌≡◌}
use mathlib.Core.List.{List}
use Prim.Native.Nat.{◌≤◌}
use lib.IntN.{ℤ}
use lib.ListN.{length}
use Rattle.columns.specs.Replying.{table_lines, bytes_of}
use Rattle.text_reply.proofs.size.table_size.Given as goal

-- the bytes of the first k pairs are counted, and are at most 65,536
abbrev pub invariant-loop-k : goal.invariant-loop-k
invariant-loop-k l = record { few : l.size ≤ 65536; counted : (ops : List ℤ) → l.size ≡ length (bytes_of (table_lines l.pairs ops l.k)) }
