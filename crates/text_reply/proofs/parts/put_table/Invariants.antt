use Rattle.columns.specs.Replying.{table_lines, bytes_of}
use Rattle.text_lines.specs.Writing.{Puts}
use Rattle.text_reply.proofs.parts.put_table.Given as goal

-- the first k pairs with their ops are written, up to `next`
abbrev pub invariant-loop-k : goal.invariant-loop-k
invariant-loop-k l = Puts (bytes_of (table_lines l.pairs l.ops l.k)) l.fn.out l.at l.next l.out
